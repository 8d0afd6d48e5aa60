-- Logs that grow by a line.
use Rattle.std.proofs.Common.{◌≡◌, ℕ, suc, ◌+◌, ◌*◌, ◌/◌, ◌^◌, List, [], ◌∷◌, ◌++◌, map, ap, ◌∙◌, arith}
use Rattle.std.specs.List.{range_with_len}
use Rattle.std.proofs.lemmas.Grind.{flat_map-append}
use Rattle.std.proofs.lemmas.List.{append-nil, map_push}
use Rattle.std.proofs.lemmas.List.FromFn.{map-range_with_len_more}
use Rattle.log_records.specs.Line.{query_line, click_line}
use Rattle.log_records.specs.Log.{line_feed, whole}
use Rattle.bulk_logs.specs.Bulk.{after, x_after, drawn, query_made, click_made, query_log, click_log}

-- one record more
module _ {R : Type 0} (line_of : R → List ℕ) (at : ℕ → R) where
  pub grown : (n : ℕ) → whole (map line_of (map at (range_with_len 0 (n + 1)))) ≡ whole (map line_of (map at (range_with_len 0 n))) ++ (line_of (at n) ++ line_feed ∷ [])
  grown n =
      let front = map at (range_with_len 0 n) in
      ap (λ (rs : List R). whole (map line_of rs)) (map-range_with_len_more at 0 n n (omega arith)) ∙ ap whole (map_push line_of front (at n)) ∙ flat_map-append (λ (line : List ℕ). line ++ line_feed ∷ []) (map line_of front) (line_of (at n) ∷ [])
      ∙ ap (λ (t : List ℕ). whole (map line_of front) ++ t) (append-nil (line_of (at n) ++ line_feed ∷ []))

-- the numbers of line k, from the generator's number before them
pub one_drawn : (seed k x y one : ℕ) → x ≡ x_after seed (2 * k) → y ≡ after x → one ≡ y / 2 ^ 33 → one ≡ drawn seed (2 * k)
one_drawn seed k x y one is e drawn_is = drawn_is ∙ ap (λ (z : ℕ). z / 2 ^ 33) (e ∙ ap after is)

pub next_after : (seed k x y z : ℕ) → x ≡ x_after seed (2 * k) → y ≡ after x → z ≡ after y → z ≡ x_after seed (2 * (k + 1))
next_after seed k x y z is e f =
    let steps : suc (suc (2 * k)) ≡ 2 * (k + 1) = omega arith in
    f ∙ ap after (e ∙ ap after is) ∙ ap (x_after seed) steps

pub other_drawn : (seed k x y z other : ℕ) → x ≡ x_after seed (2 * k) → y ≡ after x → z ≡ after y → other ≡ z / 2 ^ 33 → other ≡ drawn seed (2 * k + 1)
other_drawn seed k x y z other is e f drawn_is = grind arith

-- both logs with one line more
pub query_log_more : (seed k one other : ℕ) (old new : List ℕ) → old ≡ query_log seed k → one ≡ drawn seed (2 * k) → other ≡ drawn seed (2 * k + 1) → new ≡ old ++ (query_line (query_made k one other) ++ line_feed ∷ []) → new ≡ query_log seed (k + 1)
query_log_more seed k one other old new so_far a b e = grind (arith, grown)

pub click_log_more : (seed k one other : ℕ) (old new : List ℕ) → old ≡ click_log seed k → one ≡ drawn seed (2 * k) → other ≡ drawn seed (2 * k + 1) → new ≡ old ++ (click_line (click_made k one other) ++ line_feed ∷ []) → new ≡ click_log seed (k + 1)
click_log_more seed k one other old new so_far a b e = grind (arith, grown)
