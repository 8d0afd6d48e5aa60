-- Marks that are the front of an array.
use Rattle.std.proofs.Common.{◌≡◌, ℕ, zero, suc, ◌*◌, ◌<◌, ◌≤◌, List, [], ◌∷◌, length, take, set, Bool, true, false, sym, ap, ◌∙◌, subst, arith, length-take}
use Rattle.std.specs.Prelude.{count_by, nat_lt}
use Rattle.std.proofs.lemmas.List.{take-replicate, length-set}
use Rattle.std.proofs.Math.Seq.{take-set-lt}
use Rattle.paxos_defs.specs.Attempts.{nobody, is_most, is_new}
use Rattle.paxos_defs.specs.declared.TheConstants.{MOST_REPLICAS}
use Rattle.paxos_proposer.proofs.Counts.{most_by}

-- a member that hasn't answered is a member
pub new_within : (marks : List Bool) (r : ℕ) → is_new marks r ≡ true → r < length marks
new_within [] r e = absurd (cc)
new_within (m ∷ marks) zero e = omega arith
new_within (m ∷ marks) (suc r) e = let rest = new_within marks r e in omega arith

pub new_below : (n : ℕ) (heard : List Bool) (r : ℕ) → is_new (take n heard) r ≡ true → r < n
new_below n heard r e = let within = new_within (take n heard) r e in omega (arith, length-take n heard)

pub nobody_yet : (n : ℕ) → n ≤ MOST_REPLICAS → take n (nobody MOST_REPLICAS) ≡ nobody n
nobody_yet n h = take-replicate n MOST_REPLICAS false h

pub members : (n : ℕ) (heard : List Bool) → length heard ≡ MOST_REPLICAS → n ≤ MOST_REPLICAS → length (take n heard) ≡ n
members n heard e h = omega (arith, length-take n heard)

pub nobody_now : (n : ℕ) (heard marks : List Bool) → length heard ≡ MOST_REPLICAS → n ≤ MOST_REPLICAS → take n heard ≡ marks → take n (nobody MOST_REPLICAS) ≡ nobody (length marks)
nobody_now n heard marks e h is = nobody_yet n h ∙ ap nobody (sym (members n heard e h) ∙ ap length is)

pub marked_now : (n : ℕ) (heard marks : List Bool) (r : ℕ) → take n heard ≡ marks → is_new marks r ≡ true → take n (set heard r true) ≡ set marks r true
marked_now n heard marks r is new = take-set-lt n heard r true (new_below n heard r (subst (λ (ms : List Bool). is_new ms r ≡ true) (sym is) new)) ∙ ap (λ ms. set ms r true) is

pub most_now : (n : ℕ) (heard marks : List Bool) (r count : ℕ) → length heard ≡ MOST_REPLICAS → n ≤ MOST_REPLICAS → take n heard ≡ marks → is_new marks r ≡ true → count ≡ count_by (λ m. m) (take n (set heard r true)) → nat_lt n (2 * count) ≡ is_most (set marks r true)
most_now n heard marks r count e h is new counted =
    most_by (set marks r true) n count (length-set marks r true ∙ (sym (ap length is) ∙ members n heard e h)) (counted ∙ ap (λ ms. count_by (λ m. m) ms) (marked_now n heard marks r is new))
