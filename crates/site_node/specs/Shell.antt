-- A node over its records, beside the states that its entries lead through.
use Rattle.std.proofs.Common.{◌≡◌, inl, inr, ⊎_elim, ℕ, List, Option, Some, None, refl}
use Rattle.std.specs.Prelude.{IsTrue, Bool, true, false, ◌&&◌}
use Rattle.std.proofs.lemmas.Bool.{false≢true}
use Rattle.air_bus.specs.declared.entry.Input.{Input as Bytes}
use Rattle.air_bus.specs.declared.entry.Input.TheVariants as bytes
use Rattle.turn_defs.specs.declared.config.Config.{Config}
use Rattle.turn_defs.specs.declared.node.Input.{Input}
use Rattle.turn_defs.specs.Setting.{Setting}
use Rattle.turn_defs.specs.Turns.{Note, land}
use Rattle.site_node.specs.Bytes.{IsNoted, Reads}
use Rattle.site_node.specs.States.{State, MayHold, row, written}
use Rattle.site_node.specs.declared.deciding.Core as core
use Rattle.site_node.specs.declared.records.Records as records

-- the kept epoch where the bytes would raise it past the last one
abbrev pub spends_at : {K L : Type 0} → (K → Option ℕ) → State K L → Bytes → Option ℕ
spends_at spent s bytes.Start = spent s.kept
spends_at spent s _ = None

-- the state of a node that is down over these records
abbrev pub down_over : {K L : Type 0} → Setting → K → State K L
down_over g k = record { setting = g; kept = k; live = None; opened = None }

-- with nothing in doubt, and records that a note can be appended to, a node is up
abbrev pub waits_by : {A : Type 0} → Option A → Bool → Bool
waits_by None true = false
waits_by _ _ = true

-- where both tell, so does each
pub both_tell : (a b : Bool) → IsTrue (a && b) → IsTrue a × IsTrue b
both_tell true b tells = (refl, tells)
both_tell false b tells = absurd (false≢true tells)

-- after an append that failed: the note is in doubt, and this is its record
abbrev pub IsInDoubt : {K : Type 0} → (K → Type 0) → (Note → K → K) → Option (List ℕ) → Option Note → K → Type 0
IsInDoubt doubts lands None n k = ⊥
IsInDoubt doubts lands (Some open_record) n k = IsNoted n (Some open_record) × doubts (land lands n k)

module _ {K C N X H R F : Type 0} (c : core.Ghosts C K N X H) (r : records.Ghosts R K C F N X H) where
  -- the record is that of the row of what the state's open turn began with, and may be among the records
  pub record IsOpenAt (own : C) (kept : R) (open_record : List ℕ) (s : State K c.Live) : Type 0 where
    pub begun : Bytes
    pub opened : s.opened ≡ Some begun
    pub input : Input
    pub reads : Reads s.setting begun input
    pub noted : IsNoted (row c.rows s input).note (Some open_record)
    pub doubted : r.doubts kept s.kept (written c.rows s input)
    pub serves : c.serves own s.setting s.kept
    pub serves_next : c.serves own s.setting (written c.rows s input)

  -- without a record in doubt the node knows what it keeps; else it was stopped in its open turn
  abbrev pub StandsBy : Option (List ℕ) → C → R → State K c.Live → Type 0
  StandsBy None own kept s = r.holds kept s.kept × c.knows own s.setting s.kept s.live × (r.ready kept ≡ true)
  StandsBy (Some open_record) own kept s = IsOpenAt own kept open_record s

  -- the node, of these parts, stands at the state
  pub record StandsAt (config : Config) (open_record : Option (List ℕ)) (own : C) (kept : R) (s : State K c.Live) : Type 0 where
    pub setting : s.setting.config ≡ config
    pub by : StandsBy open_record own kept s

  -- the disks hold what the state keeps, or that and the note of its open turn
  abbrev pub KeptOn : State K c.Live → r.Contents → Type 0
  KeptOn s bytes = (k : K) × MayHold c.rows s k × r.keeps k bytes

  -- so does each image of a node that stands there
  pub kept_images : (config : Config) (open_record : Option (List ℕ)) (own : C) (kept : R) (s : State K c.Live) → IsTrue r.tells → StandsAt config open_record own kept s → (bytes : r.Contents) → r.image kept bytes → KeptOn s bytes
  kept_images config None own kept s tells at bytes here = (s.kept, inl refl, r.held kept s.kept tells at.by.0 bytes here)
  kept_images config (Some open_record) own kept s tells at bytes here =
      let o = at.by in
      let next = written c.rows s o.input in
      ⊎_elim (λ old. (s.kept, inl refl, old)) (λ new. (next, inr (o.begun, o.input, o.opened, o.reads, refl), new)) (r.doubted kept s.kept next tells o.doubted bytes here)
