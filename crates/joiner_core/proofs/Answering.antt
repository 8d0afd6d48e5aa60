-- What a turn of the code says of a row.
use Rattle.std.proofs.Common.{Result, IfOk, ◌≡◌, ℕ, List, [], ◌∷◌, map, None, option_map, refl, sym, ap, subst, ◌∙◌, arith}
use Rattle.joiner_core.proofs.Words.{Packet, Node, JoinerKept, JoinerLive, Flight, insert_of, claim, joiner_tick, flights, claim_to, Stands, Turn, known, note_of, changed, epoch_after, Answers, Does, row}
use Rattle.turn_defs.specs.declared.node.Node.TheVariants.{Server}
use Rattle.turn_defs.specs.declared.node.To.{To}
use Rattle.turn_defs.specs.declared.node.Input.{Input}
use Rattle.turn_defs.specs.Setting.{Setting}
use Rattle.turn_defs.specs.Nodes.{Addressed}
use Rattle.joiner_core.specs.declared.turn.Change.TheVariants.{Stay}
use Rattle.joiner_core.specs.declared.node_core.JoinerCore.{JoinerCore}

module _ (core : JoinerCore) (g : Setting) (n : ℕ) (k : JoinerKept) (l : JoinerLive) (s : Stands core g n k l) where
  -- the insert of each flight, to the server
  abbrev claims : List Flight → List (To × Packet)
  claims fs = map (λ (f : Flight). claim g n k l (insert_of f)) fs

  claims_are : (fs : List Flight) → Addressed g (claims fs) (map (claim_to core.site) fs)
  claims_are [] = tt
  claims_are (f ∷ fs) = ((sym (ap Server s.serves.site), refl), claims_are fs)

  -- a Tick
  pub sends_again : (t : Turn) → Does t None (map (claim_to core.site) (flights core.flights)) Stay → Answers core g n k (joiner_tick g n k l) t
  sends_again t d = record {
    note = ap (option_map note_of) d.note;
    packets =
        let own : Addressed g (claims (flights core.flights)) t.packets.items = subst (λ (ps : List (Node × Packet)). Addressed g (claims (flights core.flights)) ps) (sym d.packets) (claims_are (flights core.flights)) in
        subst (λ (m : JoinerLive). Addressed g (claims m.flight) t.packets.items) s.live own;
    next = record { serves = s.serves; epoch = ap (λ b. epoch_after b core.epoch) d.change ∙ s.epoch; live = ap (λ b. changed b (known core)) d.change ∙ s.live };
  }

-- the answer to an input is that to what it stands for
pub by_input : {core : JoinerCore} {t : Turn} (g : Setting) (n : ℕ) (k : JoinerKept) (l : JoinerLive) (i i' : Input) → i ≡ i' → Answers core g n k (row g n k l i') t → Answers core g n k (row g n k l i) t
by_input {core} {t} g n k l i i' e h = subst (λ (x : Input). Answers core g n k (row g n k l x) t) (sym e) h

-- what holds of the value in an Ok gives what else holds of it
pub if_ok : {T E : Type 0} (r : Result T E) (P Q : T → Type 0) → ((t : T) → P t → Q t) → IfOk r P → IfOk r Q
if_ok k e m f h = grind arith
