-- What follows for an aired history.
use Rattle.std.proofs.Common.{◌≡◌, ℕ, ◌-◌, ◌==◌, ◌++◌, Bool, List, [], ◌∷◌, map, Some, fold, subst, append_assoc, arith}
use Rattle.std.specs.Prelude.{Option, option_map, find, nat_lt}
use Rattle.air_bus.proofs.Words.{cond_both, eqb-true, Mem, Each, mem_left, mem_right, each_append, each_more, each_from, Kind, PlanView, Input, Packet, Entry, Begin, End, Stop, Copy, copies_of, take_out, sooner, next_copy, packet_input, or_other, Received, nothing, link_fate, arriving, puts_one, one_packet, puts, taken_by, after_entry, waiting, MayFollow, node_of, phase, IsStart, Fits, Sent, sent_to, sent_by, sent}

-- ---- turns alternate

-- what an up node takes is no start
no_start : (next : Option Copy) (tick wants : Bool) (i : Input) → or_other (option_map packet_input next) tick wants ≡ Some i → IsStart i → ⊥
no_start h tick wants i is start = grind arith

pub fits : (plan : PlanView) (kinds : List Kind) (before : List Entry) (e : Entry) → MayFollow plan kinds before e → Fits (phase (node_of e) before) e
fits plan kinds before h may = grind (arith, phase)

-- ---- what was delivered was sent

-- the copy was sent to node n
abbrev IsSent : ℕ → List Sent → Copy → Type 0
IsSent n ss c = Mem (record { from = c.from; to = n; bytes = c.bytes }) ss

module _ (P : Copy → Type 0) where
  each_out : (d : ℕ) (cs : List Copy) → Each P cs → Each P (take_out d cs)
  each_out d [] e = tt
  each_out d (c ∷ cs) e = cond_both (c.delay == d) cs (c ∷ take_out d cs) (Each P) (λ _. e.1) (λ _. (e.0, each_out d cs e.1))

  each_found : (t : Copy → Bool) (cs : List Copy) (c : Copy) → Each P cs → find t cs ≡ Some c → P c
  each_found t [] c e is = grind arith
  each_found t (x ∷ cs) c e is = grind (arith, each_found t cs c e.1)

each_sooner : (n : ℕ) (ss : List Sent) (cs : List Copy) → Each (IsSent n ss) cs → Each (IsSent n ss) (map sooner cs)
each_sooner n ss [] e = tt
each_sooner n ss (c ∷ cs) e = (e.0, each_sooner n ss cs e.1)

module _ (plan : PlanView) (kinds : List Kind) (n : ℕ) where
  each_packet : (ss : List Sent) (from : ℕ) (is_kept : Bool) (r : Received) (p : ℕ × List ℕ) → Mem (sent_to from p) ss → Each (IsSent n ss) r.copies → Each (IsSent n ss) (one_packet plan kinds n from is_kept r p).copies
  each_packet ss from is_kept r p m e = grind (arith, cond_both, puts_one, eqb-true, each_append, arriving, copies_of, link_fate)

  each_puts : (ss : List Sent) (from : ℕ) (ps : List (ℕ × List ℕ)) (kept : ℕ) (r : Received) → Each (λ (p : ℕ × List ℕ). Mem (sent_to from p) ss) ps → Each (IsSent n ss) r.copies → Each (IsSent n ss) (puts plan kinds n from ps kept r).copies
  each_puts ss from [] kept r m e = e
  each_puts ss from (p ∷ ps) kept r m e = each_puts ss from ps (kept - 1) (one_packet plan kinds n from (nat_lt 0 kept) r p) m.1 (each_packet ss from (nat_lt 0 kept) r p m.0 e)

  all_sent : (ss : List Sent) (from : ℕ) (ps : List (ℕ × List ℕ)) → Each (λ (p : ℕ × List ℕ). Mem (sent_to from p) (ss ++ map (sent_to from) ps)) ps
  all_sent ss from ps = each_from (λ (p : ℕ × List ℕ). Mem (sent_to from p) (ss ++ map (sent_to from) ps)) ps (λ p m. mem_right (sent_to from p) ss (map (sent_to from) ps) (mapped p ps m))
    where
      mapped : (p : ℕ × List ℕ) (qs : List (ℕ × List ℕ)) → Mem p qs → Mem (sent_to from p) (map (sent_to from) qs)
      mapped p [] m = absurd m
      mapped p (q ∷ qs) h = grind (arith, mapped p qs)

  wider : (ss ts : List Sent) (cs : List Copy) → Each (IsSent n ss) cs → Each (IsSent n (ss ++ ts)) cs
  wider ss ts cs e = each_more (IsSent n ss) (IsSent n (ss ++ ts)) cs (λ c m. mem_left (record { from = c.from; to = n; bytes = c.bytes }) ss ts m) e

  each_entry : (ss : List Sent) (r : Received) (e : Entry) → Each (IsSent n ss) r.copies → Each (IsSent n (ss ++ sent_by e)) (after_entry plan kinds n r e).copies
  each_entry ss r (Begin m i) all = grind (arith, cond_both, taken_by, wider, each_sooner, each_out)
  each_entry ss r (End m noted ps kept) all = each_puts (ss ++ map (sent_to m) ps) m ps kept r (all_sent ss m ps) (wider ss (map (sent_to m) ps) r.copies all)
  each_entry ss r (Stop m landed) all = wider ss [] r.copies all

  each_received : (ss : List Sent) (r : Received) (h : List Entry) → Each (IsSent n ss) r.copies → Each (IsSent n (ss ++ sent h)) (fold (after_entry plan kinds n) r h).copies
  each_received ss r [] all = wider ss [] r.copies all
  each_received ss r (e ∷ es) all = subst (λ ts. Each (IsSent n ts) (fold (after_entry plan kinds n) (after_entry plan kinds n r e) es).copies) (append_assoc ss (sent_by e) (sent es))
      (each_received (ss ++ sent_by e) (after_entry plan kinds n r e) es (each_entry ss r e all))

-- all that waits was sent
pub waiting_sent : (plan : PlanView) (kinds : List Kind) (n : ℕ) (h : List Entry) → Each (IsSent n (sent h)) (waiting plan kinds n h)
waiting_sent plan kinds n h = each_received plan kinds n [] nothing h tt

pub delivered : (plan : PlanView) (kinds : List Kind) (before : List Entry) (node from : ℕ) (bytes : List ℕ) → MayFollow plan kinds before (Begin node (Packet from bytes))
    → Mem (record { from = from; to = node; bytes = bytes }) (sent before)
delivered plan kinds before node from bytes may = grind (arith, phase, next_copy, waiting, each_found, waiting_sent)
