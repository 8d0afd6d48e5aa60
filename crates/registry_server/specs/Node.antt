-- A server's journal, the records that it holds, and what a stop may leave of it.
use Rattle.std.proofs.Common.{◌≡◌, ◌⊎◌, inl, inr, ⊎_elim, ℕ, ◌+◌, ◌<◌, List, Bool, true, false, refl, sym, ◌∙◌, subst}
use Rattle.registry_server.specs.Terms.{JournalState, Keeps, KeepsOr, LAST_EPOCH, Numbered, Ready, ServerKept, Continues}
use Rattle.outside.specs.Disk.{Throughout}
use Rattle.gate_journal.proofs.Growth.{continues_same}

-- the disk's bytes keep this epoch
abbrev pub OnDisk : Numbered ServerKept → List ℕ → Type 0
OnDisk k bytes = Keeps k.disk.epoch bytes

abbrev pub is_ready : JournalState → Bool
is_ready Ready = true
is_ready _ = false

-- the journal is at the kept epoch
pub record Holds (e : ℕ) (state : JournalState) (k : Numbered ServerKept) : Type 0 where
  pub ready : state ≡ Ready
  pub epoch : e ≡ k.disk.epoch

-- the framed epoch is above the journal's, and there is room for it
pub record MayAppend (e next : ℕ) (state : JournalState) (Room : Type 0) : Type 0 where
  pub ready : state ≡ Ready
  pub above : next ≡ e + 1
  pub low : e < LAST_EPOCH
  pub room : Room

-- nothing but room was made
pub record IsCalm (e e' : ℕ) (state state' : JournalState) {D : Type 0} (image : D → List ℕ → Type 0) (since : D → D → List ℕ → Type 0) (old new : D) : Type 0 where
  pub same_epoch : e' ≡ e
  pub same_state : state' ≡ state
  pub moments : Throughout image since old new (image old)

-- each image keeps the kept epoch or the one above it
pub record Doubts (e : ℕ) (image : List ℕ → Type 0) (k with : Numbered ServerKept) : Type 0 where
  pub images : (c : List ℕ) → image c → KeepsOr e (e + 1) c
  pub epoch : e ≡ k.disk.epoch
  pub with_is : with ≡ record { number = k.number; disk = record { epoch = e + 1 } }

-- whatever a stop leaves keeps the epoch that the journal holds
pub held_images : (e : ℕ) (state : JournalState) (k : Numbered ServerKept) → Holds e state k → (c : List ℕ) → Keeps e c → OnDisk k c
held_images e state k h c keeps = subst (λ (x : ℕ). Keeps x c) h.epoch keeps

-- or, in doubt, one of the two
pub doubt_images : (e : ℕ) (image : List ℕ → Type 0) (k with : Numbered ServerKept) → Doubts e image k with → (c : List ℕ) → image c → OnDisk k c ⊎ OnDisk with c
doubt_images e image k with d c here =
    ⊎_elim (λ old. inl (subst (λ (x : ℕ). Keeps x c) d.epoch old)) (λ new. inr (subst (λ (x : Numbered ServerKept). OnDisk x c) (sym d.with_is) new)) (d.images c here)

-- where no call is made
pub calm_still : {D : Type 0} (e : ℕ) (state : JournalState) (image : D → List ℕ → Type 0) (since : D → D → List ℕ → Type 0) (disk : D) → ((c : List ℕ) → since disk disk c → image disk c) → IsCalm e e state state image since disk disk
calm_still e state image since disk starts = record { same_epoch = refl; same_state = refl; moments = record { each = starts; now = λ c here. here; before = λ s c left. inl left } }

-- room changes nothing of what is kept
pub calm_stays : {D : Type 0} (e e' : ℕ) (state state' : JournalState) (image : D → List ℕ → Type 0) (since : D → D → List ℕ → Type 0) (old new : D) (k : Numbered ServerKept) → IsCalm e e' state state' image since old new → Holds e state k → ((c : List ℕ) → image old c → Keeps e c)
    → Holds e' state' k × ((c : List ℕ) → since old new c → OnDisk k c) × ((c : List ℕ) → image new c → Continues (image old) c)
calm_stays e e' state state' image since old new k calm h durable = (
  record { ready = calm.same_state ∙ h.ready; epoch = calm.same_epoch ∙ h.epoch },
  λ c left. held_images e state k h c (durable c (calm.moments.each c left)),
  λ c here. continues_same (image old) c (calm.moments.now c here),
)
