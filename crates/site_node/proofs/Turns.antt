-- How a turn of a node of any kind ends, as an entry.
use Rattle.std.proofs.Common.{arith, ◌≡◌, ℕ, ◌≤◌, List, [], ◌∷◌, length, Option, Some, None, inl, inr, refl, sym, ap, subst}
use Rattle.std.specs.Prelude.{All, option_map, Result, OnErr}
use Rattle.std.proofs.lemmas.List.Elements.{All-cons, All-nil}
use Rattle.list_words.specs.Lists.{Each}
use Rattle.turn_defs.specs.declared.packet.Packet.{Packet}
use Rattle.turn_defs.specs.declared.node.Node.{Node}
use Rattle.turn_defs.specs.declared.node.Input.{Input}
use Rattle.turn_defs.specs.declared.node.Input.TheVariants.{Start}
use Rattle.turn_defs.specs.declared.node.To.{To}
use Rattle.turn_defs.specs.Packets.{IsPacket}
use Rattle.turn_defs.specs.Setting.{Setting}
use Rattle.turn_defs.specs.Nodes.{Addressed}
use Rattle.air_bus.specs.declared.entry.Input.{Input as Bytes}
use Rattle.air_bus.specs.declared.entry.Input.TheVariants as bytes
use Rattle.air_bus.specs.declared.entry.Entry.TheVariants.{Begin, End}
use Rattle.site_node.specs.Bytes.{AreSpelled, IsJunk, Reads, record_of}
use Rattle.site_node.specs.States.{Fits, Leads, MayTake, Rows, State, closes, row, written}

pub on_err : {T E P : Type 0} (r : Result T E) → P → OnErr r P
on_err h p = grind arith

-- what it may take is an input that fits
pub fits_of : {L : Type 0} (g : Setting) (live : Option L) (b : Bytes) (i : Input) → Reads g b i → MayTake live b → Fits live i
fits_of {L} g None bytes.Start i reads may = subst (Fits {L = L} None) (sym reads) tt
fits_of g (Some l) bytes.Own i reads may = subst (Fits (Some l)) (sym reads) tt
fits_of g (Some l) bytes.Tick i reads may = subst (Fits (Some l)) (sym reads) tt
fits_of g (Some l) (bytes.Packet from p) i reads may = subst (Fits (Some l)) (sym reads.5) tt
fits_of g _ _ i reads may = absurd may

-- where a row's packets have spellings, so have those that are sent
pub sent_ok : (g : Setting) (rows : List (To × Packet)) (ps : List (Node × Packet)) → Each (λ (p : To × Packet). IsPacket p.1) rows → Addressed g rows ps → All (λ (p : Node × Packet). IsPacket p.1) ps
sent_ok g [] [] e a = All-nil (λ (p : Node × Packet). IsPacket p.1)
sent_ok g (x ∷ xs) (p ∷ ps) e a = All-cons (λ (q : Node × Packet). IsPacket q.1) p ps (subst IsPacket a.0.1 e.0) (sent_ok g xs ps e.1 a.1)
sent_ok g _ _ e a = absurd a

-- what no packet spells comes to a node that is up
pub up_of : {L : Type 0} (g : Setting) (live : Option L) (b : Bytes) → MayTake live b → IsJunk g b → (l : L) × (live ≡ Some l)
up_of g None bytes.Start may junk = absurd (junk Start refl)
up_of g None _ may junk = absurd may
up_of g (Some l) b may junk = (l, refl)

module _ {K L : Type 0} (rows : Rows K L) (s t : State K L) (n : ℕ) (b : Bytes) (ps : List (ℕ × List ℕ)) (sent : ℕ) (led : Leads rows s (Begin n b) t) (le : sent ≤ length ps) where
  -- what no packet spells changes nothing
  pub ends_idle : IsJunk s.setting b → ps ≡ [] → Leads rows t (End n None ps sent) (closes s s.kept s.live)
  ends_idle junk empty =
      let up = up_of s.setting s.live b led.1 junk in
      subst (λ (x : State K L). Leads rows x (End n None ps sent) (closes s s.kept s.live)) (sym led.2)
      (b, refl, le, inr (record { junk = junk; no_note = refl; no_packets = empty; knows = up.0; up = up.1; state = ap (λ (l : Option L). closes s s.kept l) up.1 }))

  -- a turn that is done
  pub ends_done : (i : Input) (note : Option (List ℕ)) (packets : List (Node × Packet)) → Reads s.setting b i → note ≡ option_map record_of (row rows s i).note → AreSpelled packets ps → Addressed s.setting (row rows s i).packets packets
      → Leads rows t (End n note ps sent) (closes s (written rows s i) (Some (row rows s i).live))
  ends_done i note packets reads noted spelled addressed =
      subst (λ (x : State K L). Leads rows x (End n note ps sent) (closes s (written rows s i) (Some (row rows s i).live))) (sym led.2)
      (b, refl, le, inl (i, reads, record { noted = noted; packets = packets; spelled = spelled; sent = addressed; state = refl }))
