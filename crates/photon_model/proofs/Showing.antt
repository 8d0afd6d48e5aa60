-- The report of a store names the missing ids, and no other.
use Rattle.std.proofs.Common.{◌≡◌, ⊎_elim, ℕ, zero, suc, ◌+◌, ◌*◌, ◌<◌, ◌≤◌, List, [], Some, None, refl, sym, ap, ◌∙◌, arith, Option, find}
use Rattle.photon_model.proofs.Words.{EventId, same_id, same_id-true, same_id-refl, Mem, mem_left, mem_right, mem_split, M, PairRec, Setting, first_joiner, IsWritten, IsMissing, known_of, pairs_from, all_pairs, pair_of, line_by, line_of, Disks}
use Rattle.photon_model.proofs.Finding.{find_some, find_none}

-- a pair of so many joiners' logs stands in one of them
pub from_log : (d : Disks) (from n : ℕ) (p : PairRec) → Mem p (pairs_from d from n) → (j : ℕ) × (from ≤ j) × (j < from + n) × Mem p (d.joiners j).pairs
from_log d from zero p m = absurd m
from_log d from (suc n) p m =
    ⊎_elim (λ k. (from, omega arith, omega arith, k)) (λ k. let h = from_log d (suc from) n p k in let a = h.1 in let b = h.2 in (h.0, omega arith, omega arith, h.3))
    (mem_split p (d.joiners from).pairs (pairs_from d (suc from) n) m)

pub to_log : (d : Disks) (from n j : ℕ) (p : PairRec) → from ≤ j → j < from + n → Mem p (d.joiners j).pairs → Mem p (pairs_from d from n)
to_log d from zero j p a b m = absurd (omega arith)
to_log d from (suc n) j p a b m = grind (arith, mem_right, mem_left, to_log d (suc from) n j p)

-- the first pair of an id is one of it, and where there is none no pair is
pub found : (ps : List PairRec) (i : EventId) (p : PairRec) → find (λ (q : PairRec). same_id q.click.id i) ps ≡ Some p → Mem p ps × (p.click.id ≡ i)
found ps i p e = let h = find_some (λ (q : PairRec). same_id q.click.id i) ps p e in (h.0, same_id-true p.click.id i h.1)

pub not_found : (ps : List PairRec) (i : EventId) (p : PairRec) → find (λ (q : PairRec). same_id q.click.id i) ps ≡ None → Mem p ps → p.click.id ≡ i → ⊥
not_found ps i p e m same = find_none (λ (q : PairRec). same_id q.click.id i) ps p e m (ap (same_id p.click.id) (sym same) ∙ same_id-refl p.click.id)

module _ (g : Setting) (d : Disks) (i : EventId) where
  abbrev Unwritten : Type 0
  Unwritten = IsWritten g (known_of g d []) i → ⊥

  pub written : (p : PairRec) → pair_of g d i ≡ Some p → IsWritten g (known_of g d []) i
  written p e = let f = found (all_pairs g d) i p e in let h = from_log d (first_joiner g) (2 * g.config.joiners) p f.0 in (h.0, p, (h.1, h.2), h.3, f.1)

  pub unwritten : pair_of g d i ≡ None → Unwritten
  unwritten e (j, p, is, m, same) = not_found (all_pairs g d) i p e (to_log d (first_joiner g) (2 * g.config.joiners) j p is.0 is.1 m) same

  shows : (o : Option PairRec) → pair_of g d i ≡ o → line_by g d i o ≡ M i → IsMissing g (known_of g d []) i
  shows o e q = grind (arith, unwritten)

  shown : (o : Option PairRec) → pair_of g d i ≡ o → IsMissing g (known_of g d []) i → line_by g d i o ≡ M i
  shown o e q = grind (arith, written)

  pub tells_missing : (line_of g d i ≡ M i → IsMissing g (known_of g d []) i) × (IsMissing g (known_of g d []) i → line_of g d i ≡ M i)
  tells_missing = (shows (pair_of g d i) refl, shown (pair_of g d i) refl)
