-- The lines of a log, and where its bytes are read.
use Rattle.std.proofs.Common.{◌≡◌, ◌≢◌, ◌⊎◌, inl, inr, ℕ, ◌+◌, ◌-◌, ◌<◌, ◌≤◌, false, eqb, List, [], ◌∷◌, ◌++◌, length, take, drop, refl, sym, ap, ◌∙◌, append_assoc, arith}
use Rattle.photon_cli.proofs.Words.{MAX_LOG, cases_Bool, eqb-true, nat_tests, drop-take, drop_at, take-append-drop, length-take, length-append, take-append-add, Lacks, behind, line_feed, whole, length-one}

apart : (byte x : ℕ) → eqb x byte ≡ false → x ≢ byte
apart byte x e same = grind (arith, nat_tests)

-- bytes have a first of this one, or none
pub first_or_none : (byte : ℕ) (bytes : List ℕ) → ((line after : List ℕ) × (bytes ≡ line ++ byte ∷ after) × Lacks byte line) ⊎ Lacks byte bytes
first_or_none byte [] = inr tt
first_or_none byte (x ∷ xs) =
    elim (cases_Bool (eqb x byte)) [
      | inl is ↦ inl ([], xs, ap (λ (b : ℕ). b ∷ xs) (eqb-true x byte is), tt)
      | inr other ↦ elim (first_or_none byte xs) [
        | inl cut ↦ inl (x ∷ cut.0, cut.1, ap (λ (bs : List ℕ). x ∷ bs) cut.2, (apart byte x other, cut.3))
        | inr none ↦ inr (apart byte x other, none)
      ]
    ]

pub take_line : (n : ℕ) (line more : List ℕ) → length line < n → take n (line ++ line_feed ∷ more) ≡ line ++ line_feed ∷ take (n - (length line + 1)) more
take_line n line more short =
    let size : length (line ++ line_feed ∷ []) ≡ length line + 1 = length-append line (line_feed ∷ []) in
    let whole_is : n ≡ length (line ++ line_feed ∷ []) + (n - (length line + 1)) = omega (arith, size) in
    ap (take n) (sym (append_assoc line (line_feed ∷ []) more)) ∙ ap (λ k. take k ((line ++ line_feed ∷ []) ++ more)) whole_is ∙ take-append-add (line ++ line_feed ∷ []) more (n - (length line + 1)) ∙ append_assoc line (line_feed ∷ []) (take (n - (length line + 1)) more)

-- a line in the first n bytes stands in all
pub line_among : (n : ℕ) (bytes line rest : List ℕ) → take n bytes ≡ line ++ line_feed ∷ rest → (after : List ℕ) × (bytes ≡ line ++ line_feed ∷ after) × (length line < n)
line_among n bytes line rest e = (
  rest ++ drop n bytes,
  sym (take-append-drop n bytes) ∙ ap (λ (x : List ℕ). x ++ drop n bytes) e ∙ append_assoc line (line_feed ∷ rest) (drop n bytes),
  omega (arith, ap length e, length-take n bytes, length-append line (line_feed ∷ rest)),
)

module _ (log front rest : List ℕ) (place : ℕ) (is : log ≡ front ++ rest) (at : place ≡ length front) (fits : place ≤ MAX_LOG) where
  pub behind_front : behind log place ≡ take (MAX_LOG - place) rest
  behind_front =
      let whole_is : MAX_LOG ≡ place + (MAX_LOG - place) = omega arith in
      ap (λ k. drop place (take k log)) whole_is ∙ drop-take place (MAX_LOG - place) log ∙ ap (take (MAX_LOG - place)) (ap (drop place) is ∙ drop_at front rest place (sym at))

  -- the line that is read at the place
  pub line_there : (line more : List ℕ) → behind log place ≡ line ++ line_feed ∷ more → (after : List ℕ) × (log ≡ front ++ (line ++ line_feed ∷ after)) × (length front + length line < MAX_LOG)
  line_there line more e = grind (arith, line_among, behind_front)

-- a line of the log is read at its place
pub reads_line : (log front line after : List ℕ) (place : ℕ) → log ≡ front ++ (line ++ line_feed ∷ after) → place ≡ length front → place + length line < MAX_LOG → (more : List ℕ) × (behind log place ≡ line ++ line_feed ∷ more)
reads_line log front line after place is at fits =
    (take (MAX_LOG - place - (length line + 1)) after, behind_front log front (line ++ line_feed ∷ after) place is at (omega arith) ∙ take_line (MAX_LOG - place) line after (omega arith))

-- ---- lists of lines

pub whole_split : (lines others : List (List ℕ)) → whole (lines ++ others) ≡ whole lines ++ whole others
whole_split [] others = refl
whole_split (l ∷ ls) others = ap (λ (x : List ℕ). (l ++ line_feed ∷ []) ++ x) (whole_split ls others) ∙ sym (append_assoc (l ++ line_feed ∷ []) (whole ls) (whole others))

pub length-whole : (lines : List (List ℕ)) → length lines ≤ length (whole lines)
length-whole [] = omega arith
length-whole (l ∷ ls) = omega (arith, length-whole ls, length-one l ls)
