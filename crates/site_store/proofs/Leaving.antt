-- What disks that were opened leave in their store, once they are given back.
use Rattle.std.proofs.Common.{◌≡◌, ◌≢◌, ◌⊎◌, inl, inr, ⊎_elim, ℕ, List, ◌∷◌, Option, Some, None, refl, sym, ap, subst, arith}
use Rattle.site_store.proofs.Words.{DiskName, IsOpened, Continues, continues_opened, Topology, Keeps, joiners_kept, Lent, Lacks, IsLent, MayBeLeft, StaysAs, GoesOn, IsFit, AllKeep, StaysOrKeeps, Setting, IsTopologyWritten, IsOut, StayOrAsked, IsAsked}
use Rattle.outside.specs.declared.store.DiskName.TheVariants as name
use Rattle.site_store.proofs.Lending.{each_mem}
use Rattle.site_store.proofs.Stays.{opened_through, goes_through, stays_grows}

-- the disks of a store, one of which may have changed since they were taken
module _ {D : Type 0} (left : D → List ℕ → Type 0) (before mid : DiskName → List ℕ → Type 0) (old new : Lent D) (others : List (Lent D)) (so : IsLent left before mid (old ∷ others)) (named : new.name ≡ old.name) where
  module _ (after : DiskName → List ℕ → Type 0) (give : (disk : DiskName) (c : List ℕ) → after disk c → MayBeLeft left mid (new ∷ others) disk c) where
    -- what holds of all that stands for what might have been left, and of what may be left of the changed disk, holds once all are given back
    pub back_as : (Q : DiskName → List ℕ → Type 0) → ((disk : DiskName) (c : List ℕ) → IsOpened (before disk) c → Q disk c) → ((c : List ℕ) → left new.disk c → Q new.name c)
        → (disk : DiskName) (c : List ℕ) → after disk c → Q disk c
    back_as Q weak here disk c now = grind (arith, each_mem)

    pub back_stays : StaysAs (left old.disk) (left new.disk) → (disk : DiskName) → StaysAs (before disk) (after disk)
    back_stays same disk = back_as (λ n c. IsOpened (before n) c) (λ n c from. from) (λ c now. subst (λ (n : DiskName). IsOpened (before n) c) (sym named) (opened_through (before old.name) (left old.disk) so.out.0 c (same c now))) disk

    pub back_grown : GoesOn (left old.disk) (left new.disk) → (disk : DiskName) → GoesOn (before disk) (after disk)
    back_grown grows disk = back_as (λ n c. Continues (before n) c) (λ n c from. continues_opened (before n) c from) (λ c now. subst (λ (n : DiskName). Continues (before n) c) (sym named) (goes_through (before old.name) (left old.disk) (left new.disk) (stays_grows (before old.name) (left old.disk) so.out.0) grows c now)) disk

    -- of the topology's disk P may hold besides
    pub back_or : (P : List ℕ → Type 0) → old.name ≡ name.Topology → ((c : List ℕ) → left new.disk c → IsOpened (left old.disk) c ⊎ P c)
        → (disk : DiskName) (c : List ℕ) → after disk c → IsOpened (before disk) c ⊎ ((disk ≡ name.Topology) × P c)
    back_or P is either = back_as (λ n c. IsOpened (before n) c ⊎ ((n ≡ name.Topology) × P c)) (λ n c from. inl from) (λ c now. grind arith)

    pub back_others : (P : List ℕ → Type 0) → old.name ≡ name.Topology → ((c : List ℕ) → left new.disk c → IsOpened (left old.disk) c ⊎ P c)
        → (disk : DiskName) → disk ≢ name.Topology → StaysAs (before disk) (after disk)
    back_others P is either disk other c now = ⊎_elim (λ from. from) (λ holds. absurd (other holds.0)) (back_or P is either disk c now)

    -- the topology's disk may keep what was asked besides
    pub back_written : (asked : Topology) → old.name ≡ name.Topology → StaysOrKeeps (left old.disk) asked (left new.disk) → StayOrAsked asked before after
    back_written asked is written = record {
      topology = λ c now. ⊎_elim (λ from. inl from) (λ keeps. inr keeps.1) (back_or (Keeps (Some asked)) is written name.Topology c now);
      others = back_others (Keeps (Some asked)) is written;
    }

    -- what may be left of the changed disk is its own
    pub back_own : Lacks others new.name → (c : List ℕ) → after new.name c → left new.disk c
    back_own away c now = grind (arith, each_mem)

  -- the disks of a run
  pub out_for : (asked : Topology) → AllKeep asked (left new.disk) → GoesOn (left old.disk) (left new.disk) → IsOut asked left before mid new others
  out_for asked keeps grows = grind arith

pub all_stay : (asked : Topology) (before after : DiskName → List ℕ → Type 0) → ((disk : DiskName) → StaysAs (before disk) (after disk)) → StayOrAsked asked before after
all_stay asked before after stay = record { topology = λ c now. inl (stay name.Topology c now); others = λ disk other. stay disk }

pub all_grow : (before after : DiskName → List ℕ → Type 0) → ((disk : DiskName) → StaysAs (before disk) (after disk)) → (disk : DiskName) → GoesOn (before disk) (after disk)
all_grow before after stay disk = stays_grows (before disk) (after disk) (stay disk)

-- ---- the asked topology

-- a site of the kept topology has as many joiners as the asked one, if it is the asked one
pub joiners_same : (kept : Option Topology) (asked : Topology) → IsFit kept asked → joiners_kept kept asked.joiners ≡ asked.joiners
joiners_same None asked fit = refl
joiners_same (Some t) asked fit = ap (λ (u : Topology). u.joiners) (fit t refl)

pub topology_written : (asked : Topology) (g : Setting) (before after : DiskName → List ℕ → Type 0) → IsAsked asked g → (c : List ℕ) × before name.Topology c → StayOrAsked asked before after → IsTopologyWritten g before after
topology_written asked g before after is was stay = grind arith
