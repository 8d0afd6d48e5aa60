-- What records keep is a topology.
use Rattle.std.proofs.Common.{arith, ◌≡◌, ℕ, ◌+◌, Bool, true, false, List, [], ◌∷◌, length, Option, Some, None, Result, Ok, Err, refl, subst}
use Rattle.std.specs.Prelude.{IfSome, drop, slice_index, if◌then◌else◌}
use Rattle.time_shards.specs.Shards.{is_table}
use Rattle.time_shards.proofs.Deciding.{table_so}
use Rattle.gate_journal.specs.Fold.{kept_after}
use Rattle.topology_journal.specs.declared.topology.Topology.{Topology}
use Rattle.topology_journal.specs.Topologies.{topology_of, IsTopology, rows_in, has_front, read_as_table, read_in, follows, follows_read, next_topology, topologies, Keeps}
use Rattle.topology_journal.proofs.Spelled.{front_is}

same_some : {A : Type 0} (x y : A) → ◌≡◌ {A = Option A} (Some x) (Some y) → x ≡ y
same_some x y e = cc

not_some : {A : Type 0} (x : A) → ◌≡◌ {A = Option A} None (Some x) → ⊥
not_some x e = (cc)

read_is : (bytes : List ℕ) (x : ℕ × Topology) → read_in bytes ≡ Some x → IsTopology x.1
read_is bytes x = front (has_front bytes) refl
  where
    table : (b : Bool) → has_front bytes ≡ true → is_table (rows_in (slice_index bytes 3) (drop 4 bytes)) ≡ b
        → (if b then Some (slice_index bytes 1, topology_of (slice_index bytes 2) (rows_in (slice_index bytes 3) (drop 4 bytes))) else None) ≡ Some x → IsTopology x.1
    table true is so e =
        let f = front_is bytes is in
        subst (λ (y : ℕ × Topology). IsTopology y.1) (same_some _ x e) (record { joiners = record { some = f.some; few = f.few }; table = table_so (rows_in (slice_index bytes 3) (drop 4 bytes)) so })
    table false is so e = absurd (not_some x e)

    front : (b : Bool) → has_front bytes ≡ b → (if b then read_as_table bytes (rows_in (slice_index bytes 3) (drop 4 bytes)) else None) ≡ Some x → IsTopology x.1
    front h is e = grind (arith, table)

follows_is : (kept : Option Topology) (x : ℕ × Topology) (t : Topology) → IsTopology x.1 → follows kept x ≡ Some t → IsTopology t
follows_is h x t is e = grind arith

next_is : (kept : Option Topology) (bytes : List ℕ) (t : Topology) → next_topology kept bytes ≡ Some t → IsTopology t
next_is kept bytes t = go (read_in bytes) refl
  where
    go : (o : Option (ℕ × Topology)) → read_in bytes ≡ o → follows_read kept o ≡ Some t → IsTopology t
    go None q e = absurd (not_some t e)
    go (Some x) q e = follows_is kept x t (read_is bytes x q) e

not_ok : (at : ℕ) (y : Option Topology) → ◌≡◌ {A = Result (Option Topology) ℕ} (Err at) (Ok y) → ⊥
not_ok at y e = (cc)

after_is : (ps : List (List ℕ)) (value kept : Option Topology) (place : ℕ) → IfSome value IsTopology → kept_after topologies value place ps ≡ Ok kept → IfSome kept IsTopology
after_is [] value kept place is e = grind arith
after_is (p ∷ ps) value kept place is e = go (λ t. after_is ps (Some t) kept (place + 5 + length p)) (next_topology value p) refl
  where
    go : ((t : Topology) → IsTopology t → kept_after topologies (Some t) (place + 5 + length p) ps ≡ Ok kept → IfSome kept IsTopology) → (o : Option Topology) → next_topology value p ≡ o → IfSome kept IsTopology
    go later (Some t) q = later t (next_is value p t q) (rw (q, kept_after) at e)
    go later None q = absurd (not_ok place kept (rw (q, kept_after) at e))

pub kept_is : (kept : Option Topology) (bytes : List ℕ) → Keeps kept bytes → IfSome kept IsTopology
kept_is kept bytes keeps = grind (arith, after_is)
