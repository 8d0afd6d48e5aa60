-- What a core stands for, shard by shard.
use Rattle.std.proofs.Common.{◌≡◌, ℕ, zero, suc, ◌+◌, ◌-◌, ◌<◌, ◌≤◌, Bool, true, false, List, ◌++◌, length, get_or, Some, None, refl, sym, ap, ◌∙◌, subst, arith, Option}
use Rattle.registry_server.proofs.Words.{Input, core_row, LAST_SLOT, cond-false, cond_both, le-ltb, append-nil, append_assoc, Ballot, Insert, shard_count, Place, Packet, Node, To, Setting, shards, Out, idle, ServerKept, ServerLive, ShardState, Proposal, first_shard, may_propose, owns, server_own, is_current, is_below_limit, server_gets, again, all_again, setting, IsShard, passes, Stands, Gives, IsTurn, IsAt, number_of, proposes_if, Shard, Test, Turn, ServerCore}
use Rattle.turn_defs.specs.declared.packet.Packet.TheVariants as packet
use Rattle.registry_server.proofs.Sending.{addressed}

-- the first number that passes a test, one further
pub first_more : (P : ℕ → Bool) (i n : ℕ) (whole : Option ℕ) → i < n → false ≡ P i → first_shard P i (n - i) ≡ whole → first_shard P (i + 1) (n - (i + 1)) ≡ whole
first_more P i n whole lt off h =
    let left : n - i ≡ suc (n - (i + 1)) = omega arith in
    let next : i + 1 ≡ suc i = omega arith in
    (λ j. first_shard P (next j) (n - (i + 1))) ∙ sym (cond-false (P i) (Some i) (first_shard P (suc i) (n - (i + 1))) (sym off)) ∙ (λ j. first_shard P i (sym left j)) ∙ h

pub first_found : (P : ℕ → Bool) (i n : ℕ) (whole : Option ℕ) → i < n → true ≡ P i → first_shard P i (n - i) ≡ whole → Some i ≡ whole
first_found k i n whole lt on h = grind arith

pub first_none : (P : ℕ → Bool) (i n : ℕ) (whole : Option ℕ) → n ≤ i → first_shard P i (n - i) ≡ whole → None ≡ whole
first_none k i n whole most h = grind arith

module _ (g : Setting) (site : ℕ) (k : ServerKept) (l : ServerLive) where
  pub again_more : (i n : ℕ) (before after whole : List (To × Packet)) → i < n → after ≡ before ++ again g site k l i (l.shards i) (l.shards i).proposal → before ++ all_again g site k l i (n - i) ≡ whole → after ++ all_again g site k l (i + 1) (n - (i + 1)) ≡ whole
  again_more i n before after whole lt e h =
      let left : n - i ≡ suc (n - (i + 1)) = omega arith in
      let next : i + 1 ≡ suc i = omega arith in
      (λ j. e j ++ all_again g site k l (next j) (n - (i + 1)))
      ∙ append_assoc before (again g site k l i (l.shards i) (l.shards i).proposal) (all_again g site k l (suc i) (n - (i + 1)))
      ∙ (λ j. before ++ all_again g site k l i (sym left j)) ∙ h

  pub again_all : (i n : ℕ) (after whole : List (To × Packet)) → n ≤ i → after ++ all_again g site k l i (n - i) ≡ whole → after ≡ whole
  again_all i n after whole most h =
      let left : n - i ≡ 0 = omega arith in
      sym (append-nil after) ∙ (λ j. after ++ all_again g site k l i (sym left j)) ∙ h

  -- a packet about a shard that the table doesn't have
  module _ (n : ℕ) (most : shards g ≤ n) where
    -- a row that looks for a proposal there
    off : (F : Option Proposal → Out ServerLive) (at : Place) (b : Ballot) (st : ShardState) → at.shard ≡ n → F None ≡ idle l → ((q : Proposal) → is_current g at b st q ≡ false → F (Some q) ≡ idle l) → (o : Option Proposal) → F o ≡ idle l
    off h at b st e none some k = grind arith

    pub beyond : (from : Node) (p : Packet) → number_of g p ≡ Some n → ((x : Insert) → p ≡ packet.Insert x → n < shards g) → server_gets g site k l from p ≡ idle l
    beyond from h e in_table = grind arith

module _ (core : ServerCore) (g : Setting) (k : ServerKept) (l : ServerLive) (h : Stands core g k l) where
  -- the setting is the core's
  pub setting_is : g ≡ setting core.station g
  setting_is = λ i. record g { config = h.config i }

  pub table_shards : shard_count core.station.config.table ≡ shards g
  table_shards = ap (λ c. shard_count c.table) (sym h.config)

  -- a shard of the core stands for that of its number
  pub stands_at : (n : ℕ) (item : Shard) → n < length core.shards.items → item ≡ get_or core.shards.items n item → IsShard item (l.shards n)
  stands_at n item lt is = subst (λ x. IsShard x (l.shards n)) (sym is) (h.each n item lt)

  pub test_at : (b : Bool) (test : Test) (n : ℕ) (item : Shard) → n < length core.shards.items → item ≡ get_or core.shards.items n item → ((z : Setting) (st : ShardState) → IsShard item st → b ≡ passes (setting core.station z) test st) → b ≡ passes g test (l.shards n)
  test_at b test n item lt is tested = subst (λ z. b ≡ passes z test (l.shards n)) (sym setting_is) (tested g (l.shards n) (stands_at n item lt is))

  pub is_at : (n : ℕ) (item : Shard) → length core.shards.items ≡ shard_count core.station.config.table → n < length core.shards.items → item ≡ get_or core.shards.items n item → IsAt (setting core.station g) item n core.round l
  is_at n item many lt is = record { within = subst (λ m. n < m) many lt; round = sym h.round; stands = stands_at n item lt is }

  pub for_setting : (turn : Turn) (out : Setting → Out ServerLive) → Gives (setting core.station g) core.station.site l turn (out (setting core.station g)) → Gives g core.station.site l turn (out g)
  for_setting turn out gives = subst (λ z. Gives z core.station.site l turn (out z)) (sym setting_is) gives

-- the turn on an input is that of its row, and what is sent is addressed
pub turn_at : (g : Setting) (site : ℕ) (k : ServerKept) (l : ServerLive) (turn : Turn) (i j : Input) → i ≡ j → Gives g site l turn (core_row g site k l j) → IsTurn g site l turn (core_row g site k l i)
turn_at g site k l turn i j is h = grind (arith, addressed)

-- the server's own work, from the first shard that may propose
pub first_passes : (P : ℕ → Bool) (from m n : ℕ) → Some n ≡ first_shard P from m → P n ≡ true
first_passes P from zero n e = absurd (cc)
first_passes P from (suc m) n e = grind (arith, first_passes P (suc from) m n)

module _ (g : Setting) (site : ℕ) (k : ServerKept) (l : ServerLive) where
  pub own_spent : LAST_SLOT ≤ l.round → server_own g site k l ≡ idle l
  own_spent most = cond-false (is_below_limit l.round) _ (idle l) (le-ltb l.round LAST_SLOT most)

  pub own_none : None ≡ first_shard (λ s. may_propose g (l.shards s)) 0 (shards g) → server_own g site k l ≡ idle l
  own_none e = cond_both (is_below_limit l.round) (owns g site k l (first_shard (λ s. may_propose g (l.shards s)) 0 (shards g))) (idle l) (λ o. o ≡ idle l) (λ _. ap (owns g site k l) (sym e)) (λ _. refl)

  pub own_is : (n : ℕ) → l.round < LAST_SLOT → Some n ≡ first_shard (λ s. may_propose g (l.shards s)) 0 (shards g) → server_own g site k l ≡ proposes_if g site k l n
  own_is n low e = grind (arith, first_passes)
