-- The text of a table, row by row.
use Rattle.std.proofs.Common.{◌≡◌, ◌≢◌, ℕ, suc, take, set, ◌<◌, ◌≤◌, ◌+◌, ◌⊎◌, inl, inr, Option, Some, List, [], ◌∷◌, ◌++◌, length, refl, sym, ap, subst, ◌∙◌, append_assoc, arith, decimal}
use Rattle.std.proofs.lemmas.Fmt.{decimal_injective}
use Rattle.std.proofs.lemmas.Option.{same_Some}
use Rattle.std.proofs.lemmas.List.{length-append, length-take-le, take_more_set}
use Rattle.list_words.specs.Bytes.{Lacks}
use Rattle.list_words.proofs.Splits.{split_same, lacks_append, lacks_none}
use Rattle.event_id.specs.EventId.{colon}
use Rattle.event_id.proofs.Numerals.{decimal_lacks}
use Rattle.list_words.specs.Lists.{Each}
use Rattle.time_shards.specs.declared.TheConstants.{MAX_ROWS}
use Rattle.time_shards.specs.declared.ShardRow.{ShardRow}
use Rattle.time_shards.specs.Shards.{IsRow, BeginsTable, IsTable}
use Rattle.time_shards.specs.Text.{comma, row_text, table_text, before, HasFirst, IsFirstBad}
use Rattle.time_shards.proofs.Tables.{table_of}

-- the text of a row has no comma
pub row_lacks : (row : ShardRow) → IsRow row → Lacks comma (row_text row)
unfolding row_text
row_lacks row h =
    let apart : colon ≢ comma = λ e. omega arith in
    lacks_append comma _ _ (decimal_lacks comma row.start (inl (omega arith)) h.start) (apart, decimal_lacks comma row.count (inl (omega arith)) (omega (arith, h.few)))

pub row_is : (row : ShardRow) → row_text row ≡ decimal row.start ++ colon ∷ decimal row.count
unfolding row_text
row_is row = refl

pub some_row : (start count : ℕ) (row : ShardRow) → start ≡ row.start → count ≡ row.count → ◌≡◌ {A = Option ShardRow} (Some (record { start = start; count = count })) (Some row)
some_row start count row p q = rw (p, q) refl

same_row : (r s : ShardRow) → r.start ≡ s.start → r.count ≡ s.count → r ≡ s
same_row r s p q = same_Some r s (some_row r.start r.count s p q)

-- no two rows have one text
pub row_same : (r s : ShardRow) → IsRow r → IsRow s → row_text r ≡ row_text s → r ≡ s
row_same r s h k e =
    let lacks : (row : ShardRow) → IsRow row → Lacks colon (decimal row.start) = λ row is. decimal_lacks colon row.start (inr (omega arith)) is.start in
    let parts = split_same colon _ (decimal r.count) _ (decimal s.count) (lacks r h) (lacks s k) (sym (row_is r) ∙ e ∙ row_is s) in
    same_row r s (decimal_injective r.start s.start h.start k.start parts.0) (decimal_injective r.count s.count (omega (arith, h.few)) (omega (arith, k.few)) parts.1)

pub before_push : (xs : List ShardRow) (y : ShardRow) → before (xs ++ y ∷ []) ≡ before xs ++ (row_text y ++ comma ∷ [])
before_push [] y = refl
before_push (x ∷ xs) y = ap (λ (t : List ℕ). row_text x ++ comma ∷ t) (before_push xs y) ∙ sym (append_assoc (row_text x) (comma ∷ before xs) (row_text y ++ comma ∷ []))

pub table_push : (xs : List ShardRow) (y : ShardRow) → table_text (xs ++ y ∷ []) ≡ before xs ++ row_text y
table_push [] y = refl
table_push (x ∷ []) y = sym (append_assoc (row_text x) (comma ∷ []) (row_text y))
table_push (x ∷ z ∷ xs) y = ap (λ (t : List ℕ). row_text x ++ comma ∷ t) (table_push (z ∷ xs) y) ∙ sym (append_assoc (row_text x) (comma ∷ before (z ∷ xs)) (row_text y))

-- a table's text that begins with good rows has them, and more rows, which spell the rest
goes_on : (rows table : List ShardRow) (rest : List ℕ) → 1 ≤ length table → Each IsRow rows → Each IsRow table → before rows ++ rest ≡ table_text table
    → (row : ShardRow) × (more : List ShardRow) × (table ≡ rows ++ row ∷ more) × (rest ≡ table_text (row ∷ more))
goes_on [] (t ∷ ts) rest some h k e = (t, ts, refl, e)
goes_on (r ∷ rs) (t ∷ []) rest some h k e =
    absurd (lacks_none comma (row_text r) (before rs ++ rest) (subst (Lacks comma) (sym e ∙ append_assoc (row_text r) (comma ∷ before rs) rest) (row_lacks t k.0)))
goes_on (r ∷ rs) (t ∷ u ∷ ts) rest some h k e =
    let parts = split_same comma _ (before rs ++ rest) _ (table_text (u ∷ ts)) (row_lacks r h.0) (row_lacks t k.0) (sym (append_assoc (row_text r) (comma ∷ before rs) rest) ∙ e) in
    let first : r ≡ t = row_same r t h.0 k.0 parts.0 in
    let on = goes_on rs (u ∷ ts) rest (omega arith) h.1 k.1 parts.1 in
    (on.0, on.1, (let tail : u ∷ ts ≡ rs ++ on.0 ∷ on.1 = on.2 in cc), on.3)
goes_on _ [] rest some h k e = absurd (omega arith)

-- a table's text has no bad row
pub none_bad : (text : List ℕ) (n : ℕ) (table : List ShardRow) → IsFirstBad text n → IsTable table → text ≡ table_text table → ⊥
none_bad text n table b t e = grind (arith, goes_on)

-- no two tables have one text
pub table_same : (xs ys : List ShardRow) → 1 ≤ length xs → 1 ≤ length ys → Each IsRow xs → Each IsRow ys → table_text xs ≡ table_text ys → xs ≡ ys
table_same (x ∷ []) (y ∷ []) p q h k e = let same : x ≡ y = row_same x y h.0 k.0 e in cc
table_same (x ∷ []) (y ∷ z ∷ ys) p q h k e = absurd (lacks_none comma (row_text y) (table_text (z ∷ ys)) (subst (Lacks comma) e (row_lacks x h.0)))
table_same (x ∷ z ∷ xs) (y ∷ []) p q h k e = absurd (lacks_none comma (row_text x) (table_text (z ∷ xs)) (subst (Lacks comma) (sym e) (row_lacks y k.0)))
table_same (x ∷ w ∷ xs) (y ∷ z ∷ ys) p q h k e =
    let parts = split_same comma _ (table_text (w ∷ xs)) _ (table_text (z ∷ ys)) (row_lacks x h.0) (row_lacks y k.0) e in
    let first : x ≡ y = row_same x y h.0 k.0 parts.0 in
    let tail : w ∷ xs ≡ z ∷ ys = table_same (w ∷ xs) (z ∷ ys) (omega arith) (omega arith) h.1 k.1 parts.1 in
    cc
table_same _ _ p q h k e = absurd (omega arith)

-- the parts of a row's text, joined
pub row_joins : (text a b : List ℕ) (start count : ℕ) → text ≡ a ++ colon ∷ b → a ≡ decimal start → b ≡ decimal count → text ≡ row_text (record { start = start; count = count })
unfolding row_text
row_joins text a b start count e f g = rw (e, f, g) refl

-- where no row of a text goes on with the good ones before it, the row there is the first bad one
pub stops : (text rest : List ℕ) (good : List ShardRow) (n : ℕ) → text ≡ before good ++ rest → length good ≡ n → BeginsTable good
    → ((row : ShardRow) → HasFirst rest row → BeginsTable (good ++ row ∷ []) → ⊥) → IsFirstBad text n
stops text rest good n e p b h = record { good = good; rest = rest; spelled = e; place = p; begins = b; bad = h }

-- behind as many rows as a table has each further one is bad
pub full : (good : List ShardRow) (row : ShardRow) → length good ≡ MAX_ROWS → BeginsTable (good ++ row ∷ []) → ⊥
full good row e b = omega (arith, b.few, length-append good (row ∷ []))

-- one more good row, with a comma behind it
pub spelled_more : (text rest behind : List ℕ) (good : List ShardRow) (row : ShardRow) → text ≡ before good ++ rest → rest ≡ row_text row ++ comma ∷ behind → text ≡ before (good ++ row ∷ []) ++ behind
spelled_more text rest behind good row e f =
    e ∙ ap (λ (t : List ℕ). before good ++ t) f
    ∙ ap (λ (t : List ℕ). before good ++ t) (sym (append_assoc (row_text row) (comma ∷ []) behind))
    ∙ sym (append_assoc (before good) (row_text row ++ comma ∷ []) behind)
    ∙ ap (λ (t : List ℕ). t ++ behind) (sym (before_push good row))

-- what is spelled by one table isn't spelled by another
pub only_table : (text : List ℕ) (one other : List ShardRow) → IsTable one → IsTable other → text ≡ table_text one → text ≡ table_text other → one ≡ other
only_table text one other t u e f = table_same one other t.some u.some t.begins.each u.begins.each (sym e ∙ f)

-- ys are xs and more rows, the first of which begins the rest
abbrev GoesOn : List ShardRow → List ShardRow → List ℕ → Type 0
GoesOn xs ys rest = (row : ShardRow) × (more : List ShardRow) × (ys ≡ xs ++ row ∷ more) × HasFirst rest row

-- good rows at the front of one text: they are as many, or one text has more of them
compare_good : (xs ys : List ShardRow) (rest rest' : List ℕ) → Each IsRow xs → Each IsRow ys → before xs ++ rest ≡ before ys ++ rest'
    → (length xs ≡ length ys) ⊎ (GoesOn xs ys rest ⊎ GoesOn ys xs rest')
compare_good [] [] rest rest' h k e = inl refl
compare_good [] (y ∷ ys) rest rest' h k e = inr (inl (y, ys, refl, inr (before ys ++ rest', e ∙ append_assoc (row_text y) (comma ∷ before ys) rest')))
compare_good (x ∷ xs) [] rest rest' h k e = inr (inr (x, xs, refl, inr (before xs ++ rest, sym e ∙ append_assoc (row_text x) (comma ∷ before xs) rest)))
compare_good (x ∷ xs) (y ∷ ys) rest rest' h k e =
    let parts = split_same comma _ (before xs ++ rest) _ (before ys ++ rest') (row_lacks x h.0) (row_lacks y k.0)
    (sym (append_assoc (row_text x) (comma ∷ before xs) rest) ∙ e ∙ append_assoc (row_text y) (comma ∷ before ys) rest') in
    let first : x ≡ y = row_same x y h.0 k.0 parts.0 in
    elim (compare_good xs ys rest rest' h.1 k.1 parts.1) as (λ _. (length (x ∷ xs) ≡ length (y ∷ ys)) ⊎ (GoesOn (x ∷ xs) (y ∷ ys) rest ⊎ GoesOn (y ∷ ys) (x ∷ xs) rest')) [
      | inl same ↦ inl (ap (λ n. suc n) same)
      | inr longer ↦ elim longer as (λ _. (length (x ∷ xs) ≡ length (y ∷ ys)) ⊎ (GoesOn (x ∷ xs) (y ∷ ys) rest ⊎ GoesOn (y ∷ ys) (x ∷ xs) rest')) [
        | inl on ↦ inr (inl (on.0, on.1, (let tail : ys ≡ xs ++ on.0 ∷ on.1 = on.2 in cc), on.3))
        | inr on ↦ inr (inr (on.0, on.1, (let tail : xs ≡ ys ++ on.0 ∷ on.1 = on.2 in cc), on.3))
      ]
    ]

-- a text has one first bad row at most
pub one_bad : (text : List ℕ) (m n : ℕ) → IsFirstBad text m → IsFirstBad text n → m ≡ n
one_bad text m n b d = grind (arith, compare_good)

-- ---- the rows that are read into the front of an array

-- the row that doesn't go on with those is the first bad one
pub bad_at : (text rest : List ℕ) (rows : List ShardRow) (row at : ℕ) → at ≡ row → row ≤ length rows → BeginsTable (take row rows) → text ≡ before (take row rows) ++ rest
    → ((next : ShardRow) → HasFirst rest next → BeginsTable (take at rows ++ next ∷ []) → ⊥) → IsFirstBad text row
bad_at text rest rows row at e le b s none = grind (arith, length-take-le)

-- one more row, and more text behind it
pub more_at : (text rest behind : List ℕ) (rows : List ShardRow) (next : ShardRow) (row at : ℕ) → at ≡ row → row < length rows → text ≡ before (take row rows) ++ rest
    → BeginsTable (take at rows ++ next ∷ []) → rest ≡ row_text next ++ comma ∷ behind
    → BeginsTable (take (row + 1) (set rows at next)) × (text ≡ before (take (row + 1) (set rows at next)) ++ behind)
more_at text rest behind rows next row at e lt s b f =
    let P : List ShardRow → Type 0 = λ all. BeginsTable all × (text ≡ before all ++ behind) in
    let here : BeginsTable (take row rows ++ next ∷ []) = subst (λ k. BeginsTable (take k rows ++ next ∷ [])) e b in
    let whole : take (row + 1) (set rows at next) ≡ take row rows ++ next ∷ [] = ap (λ k. take (row + 1) (set rows k next)) e ∙ take_more_set rows row next lt in
    subst P (sym whole) (here, spelled_more text rest behind (take row rows) next s f)

-- the last row
pub last_at : (text rest : List ℕ) (rows : List ShardRow) (next : ShardRow) (row at : ℕ) → at ≡ row → row < length rows → text ≡ before (take row rows) ++ rest
    → BeginsTable (take at rows ++ next ∷ []) → rest ≡ row_text next
    → IsTable (take (at + 1) (set rows at next)) × (text ≡ table_text (take (at + 1) (set rows at next)))
last_at text rest rows next row at e lt s b f = grind (arith, take_more_set, table_of, table_push)

-- behind as many rows as a table has the text doesn't go on
pub full_at : (text rest : List ℕ) (rows : List ShardRow) (row : ℕ) → MAX_ROWS ≤ row → row ≤ MAX_ROWS → length rows ≡ MAX_ROWS → BeginsTable (take row rows) → text ≡ before (take row rows) ++ rest → IsFirstBad text MAX_ROWS
full_at text rest rows row low high l b s = grind (arith, length-take-le, stops)
