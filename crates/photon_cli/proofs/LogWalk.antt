-- One line more of a log.
use Rattle.std.proofs.Common.{◌≡◌, ◌≢◌, inl, inr, ℕ, ◌+◌, ◌<◌, ◌≤◌, Option, Some, None, List, [], ◌∷◌, ◌++◌, length, map, Contains, refl, sym, ap, subst, ◌∙◌, append_assoc, arith}
use Rattle.photon_cli.proofs.Words.{MAX_LINE, AllByRecursion, map-append, append-nil, length-append, Contains-push_cases, Contains-append_right, Lacks, split_same, lacks_none, behind, IsNext, EventId, Why, OrMemory, line_feed, whole, AreRecords, MAX_LOG, one_more, Places, first_place, seen_of, Keeps, Step, SoFar, AtEnd, WrongNext, IsStep, length-one, found, none_found}
use Rattle.tail_reader.specs.declared.tail.Next.TheVariants as next
use Rattle.log_records.specs.declared.why.Why.TheVariants as why
use Rattle.log_records.specs.declared.stream.Seen.TheVariants as seen
use Rattle.photon_cli.proofs.LogCuts.{line_there, reads_line, whole_split}

one_line : (line : List ℕ) → line ++ line_feed ∷ [] ≡ whole (line ∷ [])
one_line line = sym (append-nil (line ++ line_feed ∷ []))

each_push : {R : Type 0} (P : R → Type 0) (rs : List R) (r : R) → AllByRecursion P rs → P r → AllByRecursion P (rs ++ r ∷ [])
each_push P [] r h k = (k, tt)
each_push P (x ∷ xs) r h k = (h.0, each_push P xs r h.1 k)

lines_push : {R : Type 0} (line_of : R → List ℕ) (P : List ℕ → Type 0) (rs : List R) (r : R) → AllByRecursion P (map line_of rs) → P (line_of r) → AllByRecursion P (map line_of (rs ++ r ∷ []))
lines_push line_of P [] r h k = (k, tt)
lines_push line_of P (x ∷ xs) r h k = (h.0, lines_push line_of P xs r h.1 k)

line_of_one : {R : Type 0} (line_of : R → List ℕ) (P : List ℕ → Type 0) (before : List R) (r : R) (after : List R) → AllByRecursion P (map line_of (before ++ r ∷ after)) → P (line_of r)
line_of_one line_of P [] r after h = h.0
line_of_one line_of P (x ∷ xs) r after h = line_of_one line_of P xs r after h.1

-- what is read where a line stands
pub read_there : (log : List ℕ) (place p e : ℕ) (given there rest : List ℕ) → IsNext log place (next.Line p e) given → behind log place ≡ there ++ line_feed ∷ rest → Lacks line_feed there → there ≡ given
read_there log place p e given there rest (same, end_is, short, lacks, (more, is)) at none = (split_same line_feed there rest given more none lacks (sym at ∙ is)).0

pub not_long : (log : List ℕ) (place p e : ℕ) (given there rest line : List ℕ) → IsNext log place (next.Long p e) given → behind log place ≡ there ++ line_feed ∷ rest → Lacks line_feed there → length line ≤ MAX_LINE → there ≢ line
not_long log place p e given there rest line (same, (long, more, is, lacks, size, end_is)) at none short equal = omega (arith, ap length equal, ap length (split_same line_feed there rest long more none lacks (sym at ∙ is)).0)

pub not_end : (log : List ℕ) (place p : ℕ) (given there rest : List ℕ) → IsNext log place (next.End p) given → behind log place ≡ there ++ line_feed ∷ rest → ⊥
not_end log place p given there rest (same, none) at = lacks_none line_feed there rest (subst (Lacks line_feed) at none)

-- what is told of an id says what its first place is
pub told_new : (o : Option ℕ) → seen.New ≡ seen_of o → o ≡ None
told_new h e = grind arith

pub told_again : (o : Option ℕ) (q : ℕ) → seen.Again q ≡ seen_of o → o ≡ Some q
told_again h q e = grind arith

module _ {R : Type 0} (line_of : R → List ℕ) (IsRecord : R → Type 0) (id_of : R → EventId) where
  -- among these records one has the id and the line
  one_push : (rs : List R) (r : R) → AreRecords line_of IsRecord id_of rs → IsRecord r → ((x : R) → Contains rs x → id_of x ≡ id_of r → line_of x ≡ line_of r) → AreRecords line_of IsRecord id_of (rs ++ r ∷ [])
  one_push rs r are valid agrees = record {
    each = each_push IsRecord rs r are.each valid;
    one = λ x y a b e.
        elim (Contains-push_cases rs r x a) [
          | inl x-old ↦ elim (Contains-push_cases rs r y b) [
            | inl y-old ↦ are.one x y x-old y-old e
            | inr y-new ↦ agrees x x-old (e ∙ ap id_of (sym y-new)) ∙ ap line_of y-new
          ]
          | inr x-new ↦ elim (Contains-push_cases rs r y b) [
            | inl y-old ↦ ap line_of (sym x-new) ∙ sym (agrees y y-old (sym e ∙ ap id_of (sym x-new)))
            | inr y-new ↦ ap line_of (sym x-new ∙ y-new)
          ]
        ];
  }

  module _ (log : List ℕ) (place : ℕ) (rs : List R) (so_far : SoFar line_of IsRecord id_of log place rs) where
    -- the line that is read next
    there : (line more : List ℕ) → behind log place ≡ line ++ line_feed ∷ more → (after : List ℕ) × (log ≡ whole (map line_of rs) ++ (line ++ line_feed ∷ after)) × (length (whole (map line_of rs)) + length line < MAX_LOG)
    there line more e = line_there log (whole (map line_of rs)) so_far.begins.0 place so_far.begins.1 so_far.at so_far.fits line more e

    pub goes_on : (end_ : ℕ) (line : List ℕ) (r : R) → IsNext log place (next.Line place end_) line → IsRecord r → line ≡ line_of r → ((x : R) → Contains rs x → id_of x ≡ id_of r → line_of x ≡ line_of r) → SoFar line_of IsRecord id_of log end_ (rs ++ r ∷ [])
    goes_on end_ line r (same, end_is, short, lacks, (more, e)) valid is_line agrees =
        let here = there line more e in
        let lines_are : whole (map line_of (rs ++ r ∷ [])) ≡ whole (map line_of rs) ++ whole (line_of r ∷ []) = ap whole (map-append line_of rs (r ∷ [])) ∙ whole_split (map line_of rs) (line_of r ∷ []) in
        let len : length (whole (map line_of (rs ++ r ∷ []))) ≡ length (whole (map line_of rs)) + (length line + 1) = omega (arith, ap length lines_are, length-append (whole (map line_of rs)) (whole (line_of r ∷ [])), length-one (line_of r) [], ap length is_line) in
        let line_is : line ++ line_feed ∷ here.0 ≡ whole (line_of r ∷ []) ++ here.0 = ap (λ (l : List ℕ). l ++ line_feed ∷ here.0) is_line ∙ sym (append_assoc (line_of r) (line_feed ∷ []) here.0) ∙ ap (λ (l : List ℕ). l ++ here.0) (one_line (line_of r)) in
        record {
          begins = (here.0, here.1 ∙ ap (λ (x : List ℕ). whole (map line_of rs) ++ x) line_is ∙ sym (append_assoc (whole (map line_of rs)) (whole (line_of r ∷ [])) here.0) ∙ ap (λ (x : List ℕ). x ++ here.0) (sym lines_are));
          at = omega (arith, end_is, len, so_far.at);
          fits = omega (arith, end_is, here.2, so_far.at);
          records = one_push rs r so_far.records valid agrees;
          lines = lines_push line_of (Lacks line_feed) rs r so_far.lines (subst (Lacks line_feed) is_line lacks);
        }

    -- a line of a new id
    pub goes_on_new : (end_ : ℕ) (line : List ℕ) (r : R) → IsNext log place (next.Line place end_) line → IsRecord r → line ≡ line_of r → first_place line_of id_of 0 rs (id_of r) ≡ None → SoFar line_of IsRecord id_of log end_ (rs ++ r ∷ [])
    goes_on_new end_ line r is_next valid is_line none = goes_on end_ line r is_next valid is_line (λ x among e. absurd (none_found line_of id_of 0 rs (id_of r) x none among e))

    -- the first line of an id is read at its place
    pub first_line : (id : EventId) (q : ℕ) → first_place line_of id_of 0 rs id ≡ Some q → (r : R) × Contains rs r × (id_of r ≡ id) × Lacks line_feed (line_of r) × ((more : List ℕ) × (behind log q ≡ line_of r ++ line_feed ∷ more))
    first_line id q e =
        let first = found line_of id_of 0 rs id q e in
        let before = first.0 in
        let r = first.1 in
        let after = first.2 in
        let lines_are : whole (map line_of rs) ≡ whole (map line_of before) ++ whole (line_of r ∷ map line_of after) = ap (λ (xs : List R). whole (map line_of xs)) first.3 ∙ ap whole (map-append line_of before (r ∷ after)) ∙ whole_split (map line_of before) (line_of r ∷ map line_of after) in
        let log_is : log ≡ whole (map line_of before) ++ (line_of r ++ line_feed ∷ (whole (map line_of after) ++ so_far.begins.0)) =
        so_far.begins.1 ∙ ap (λ (x : List ℕ). x ++ so_far.begins.0) lines_are ∙ append_assoc (whole (map line_of before)) (whole (line_of r ∷ map line_of after)) so_far.begins.0 ∙ ap (λ (x : List ℕ). whole (map line_of before) ++ x) (one_more (line_of r) (map line_of after) so_far.begins.0) in
        let size : length (whole (map line_of rs)) ≡ length (whole (map line_of before)) + (length (line_of r) + 1 + length (whole (map line_of after))) = omega (arith, ap length lines_are, length-append (whole (map line_of before)) (whole (line_of r ∷ map line_of after)), length-one (line_of r) (map line_of after)) in (
          r,
          subst (λ (xs : List R). Contains xs r) (sym first.3) (Contains-append_right before (r ∷ after) r (0, omega arith, refl)),
          first.4,
          line_of_one line_of (Lacks line_feed) before r after (subst (λ (xs : List R). AllByRecursion (Lacks line_feed) (map line_of xs)) first.3 so_far.lines),
          reads_line log (whole (map line_of before)) (line_of r) (whole (map line_of after) ++ so_far.begins.0) q log_is (omega (arith, first.5)) (omega (arith, first.5, size, so_far.at, so_far.fits)),
        )

    -- a line that stands there once more
    pub goes_on_again : (end_ : ℕ) (line : List ℕ) (r s : R) → IsNext log place (next.Line place end_) line → IsRecord r → line ≡ line_of r → Contains rs s → id_of s ≡ id_of r → line_of s ≡ line → SoFar line_of IsRecord id_of log end_ (rs ++ r ∷ [])
    goes_on_again end_ line r s is_next valid is_line among same_id same_line = goes_on end_ line r is_next valid is_line (λ x with_x e. so_far.records.one x s with_x among (e ∙ sym same_id) ∙ same_line ∙ is_line)

    module _ (LineWhy : List ℕ → Why → Type 0) where
      pub wrong_line : (end_ : ℕ) (line : List ℕ) (w : Why) → IsNext log place (next.Line place end_) line → OrMemory (LineWhy line) w → OrMemory (WrongNext line_of IsRecord id_of LineWhy log rs) w
      wrong_line end_ line w is_next h = grind (arith, there)

      pub conflict : (end_ : ℕ) (line : List ℕ) (r s : R) → IsNext log place (next.Line place end_) line → IsRecord r → line ≡ line_of r → Contains rs s → id_of s ≡ id_of r → line_of s ≢ line → WrongNext line_of IsRecord id_of LineWhy log rs why.Conflict
      conflict end_ line r s is_next valid is_line among same_id other = grind (arith, there)

      pub long_line : (p e : ℕ) (line : List ℕ) → IsNext log place (next.Long p e) line → ((l : List ℕ) → MAX_LINE < length l → LineWhy l why.TooLong) → WrongNext line_of IsRecord id_of LineWhy log rs why.TooLong
      long_line p e line (same, (long, more, is, lacks, size, end_is)) law = let here = there long more is in (long, here.0, here.1, lacks, here.2, inl (law long size))

    pub at_end : (p : ℕ) (line : List ℕ) → IsNext log place (next.End p) line → AtEnd line_of IsRecord id_of log place rs
    at_end p line (same, none) = record { so_far = so_far; none = none }

  module _ (LineWhy : List ℕ → Why → Type 0) (log log' : List ℕ) (place p end_ tail place' : ℕ) (line : List ℕ) (old new : Places) (same : log' ≡ log) (is_next : IsNext log place (next.Line p end_) line) (at : tail ≡ end_) where
    abbrev Came : List ℕ → Step → Type 0
    Came b to = (rs : List R) → IsNext b p (next.Line p end_) line → SoFar line_of IsRecord id_of b p rs → Keeps line_of id_of old rs → tail ≡ end_ → IsStep line_of IsRecord id_of LineWhy b place' new rs to

    -- what the line that was read came to
    came : (to : Step) → Came log' to → (rs : List R) → SoFar line_of IsRecord id_of log place rs → Keeps line_of id_of old rs → IsStep line_of IsRecord id_of LineWhy log place' new rs to
    came to told rs so_far keeps = grind arith
