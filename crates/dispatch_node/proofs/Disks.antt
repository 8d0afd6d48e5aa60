-- What a journal of positions keeps, and what a stop leaves of both journals.
use Rattle.std.proofs.Common.{◌≡◌, ℕ, Bool, true, false, not, ◌||◌, if◌then◌else◌, nat_eq, List, [], ◌∷◌, Some, refl, ◌∙◌, arith}
use Rattle.std.specs.List.{IsDistinct}
use Rattle.dispatch_node.proofs.Words.{AllByRecursion, remove_key, nat_eq_equiv, not-true, has, without, Distinct, any_has, removed, has_push-right, has_without-self, Doubts, Holds, IsFound, are_ready, kept, takes_note, told, Note, Numbered, DispatcherKept, DispatchNote, land_dispatcher}
use Rattle.dispatch_node.specs.declared.journals.Journals.{Journals}
use Rattle.outside.specs.declared.disk.Disk as disk
use Rattle.retry_log.specs.Pending as pending

-- ---- positions

lacks : (x : ℕ) (xs : List ℕ) → AllByRecursion (λ y. nat_eq x y ≡ false) xs → has xs x ≡ false
lacks x [] h = refl
lacks x (y ∷ ys) h = let here = nat_eq_equiv.symm y x ∙ h.0 in let rest = lacks x ys h.1 in λ i. here i || rest i

pub distinct_of : (xs : List ℕ) → IsDistinct nat_eq xs → Distinct xs
unfolding IsDistinct
distinct_of [] d = tt
distinct_of (x ∷ xs) d = (lacks x xs d.0, distinct_of xs d.1)

pub settled : (xs : List ℕ) (p : ℕ) → IsDistinct nat_eq xs → remove_key (nat_eq p) xs ≡ without xs p
settled xs p d = removed xs p (distinct_of xs d)

pub none_parked : (xs : List ℕ) (p : ℕ) → not (has xs p) ≡ true → pending.is_among xs p ≡ false
none_parked xs p h = any_has xs p ∙ not-true (has xs p) h

pub pending_has : (xs : List ℕ) (p : ℕ) → has xs p ≡ true → pending.is_among xs p ≡ true
pending_has xs p h = any_has xs p ∙ h

-- ---- what a stop left

-- a note that was written isn't taken again
taken_once : (n : Note) (k : DispatcherKept) → takes_note k n ≡ true → takes_note (land_dispatcher n k) n ≡ false
taken_once h k takes = grind (arith, has_push-right, has_without-self)

-- they hold the note in doubt where it landed
pub landed_as : {D : Type 0} {d : disk.Ghosts D} (old new : Journals D d) (k with : Numbered DispatcherKept) (note : DispatchNote) (landed : Bool) → Doubts old k with → IsFound old new → are_ready new ≡ true → new.in_doubt ≡ old.in_doubt → new.in_doubt ≡ Some note
    → landed ≡ not (takes_note (kept new) (told note)) → Holds new (if landed then with else k)
landed_as old new k with note landed doubts left ready same is tells = grind (arith, taken_once)
