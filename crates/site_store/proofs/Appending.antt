-- A record behind those of the topology's disk.
use Rattle.std.proofs.Common.{◌≡◌, ◌⊎◌, inl, inr, ℕ, List, [], ◌∷◌, ◌++◌, Option, Result, Ok, Err, sym, ◌∙◌, ap, subst, arith}
use Rattle.gate_journal.specs.Gate.{IsOldOrNew, records}
use Rattle.topology_journal.specs.Topologies.{MayCome, topology_record}
use Rattle.topology_journal.specs.TopologyLaws.{comes_next}
use Rattle.site_store.proofs.Words.{StandsFor, read_as, IsOpened, GoesOn, StaysAs, Topology, Keeps, topologies, IsWritten}

not_ok : (at : ℕ) (y : Option Topology) → ◌≡◌ {A = Result (Option Topology) ℕ} (Err at) (Ok y) → ⊥
not_ok at y e = (cc)

-- what keeps a topology or none stands for its records
stands_for : (kept : Option Topology) (c : List ℕ) → Keeps kept c → StandsFor (records c) c
stands_for kept c keeps = grind arith

-- Each image of the disk keeps what is kept, and is as the disk reads. A record may come next.
module _ (before image after : List ℕ → Type 0) (kept : Option Topology) (t : Topology) (seen : List ℕ) (within : (c : List ℕ) → image c → before c) (keeps : (c : List ℕ) → image c → Keeps kept c)
    (one : (c : List ℕ) → image c → c ≡ seen) (may : MayCome kept t) (grows : GoesOn image after) (c : List ℕ) (now : after c) where
  -- the image that was
  abbrev was : (b : List ℕ) × image b
  was = let x = grows c now in (x.0, x.1)

  stood : StandsFor (records seen) was.0
  stood = subst (λ b. StandsFor (records b) was.0) (one was.0 was.1) (stands_for kept was.0 (keeps was.0 was.1))

  pub written : StandsFor (records seen ++ topology_record t ∷ []) c → IsWritten before t c
  written stands = record {
    from = was.0;
    was = within was.0 was.1;
    records = records seen;
    stood = stood;
    stands = stands;
    keeps = ap (read_as topologies) stands ∙ comes_next kept t (records seen) may (sym (ap (read_as topologies) stood) ∙ keeps was.0 was.1);
  }

  pub old_or_written : IsOldOrNew (records seen) (topology_record t) c → IsOpened before c ⊎ IsWritten before t c
  old_or_written (inl stands) = inl (was.0, within was.0 was.1, stands ∙ sym stood)
  old_or_written (inr stands) = inr (written stands)

-- the same of the images that a disk had before
pub written_through : (before left : List ℕ → Type 0) → StaysAs before left → (t : Topology) (c : List ℕ) → IsWritten left t c → IsWritten before t c
written_through before left stays t c w = grind arith
