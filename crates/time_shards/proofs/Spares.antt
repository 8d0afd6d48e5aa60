-- Rows that are read into the front of an array.
use Rattle.std.proofs.Common.{◌≡◌, ℕ, ◌<◌, ◌+◌, List, length, set, drop, sym, ap, subst, ◌∙◌, arith}
use Rattle.std.proofs.lemmas.List.{drop_more, drop-set-lt}
use Rattle.list_words.specs.Lists.{Each}
use Rattle.time_shards.specs.declared.ShardRow.{ShardRow}
use Rattle.time_shards.specs.Spares.{spare, IsSpareFrom}

-- one more row at the first spare place
pub spare_more : (rows : List ShardRow) (next : ShardRow) (row at : ℕ) → at ≡ row → row < length rows → IsSpareFrom row rows → IsSpareFrom (row + 1) (set rows at next)
spare_more rows next row at e lt h =
    let Spare : List ShardRow → Type 0 = λ places. Each (λ place. place ≡ spare) places in
    let behind = subst Spare (drop_more rows row next lt) h in
    subst Spare (sym (ap (λ k. drop (row + 1) (set rows k next)) e ∙ drop-set-lt (row + 1) rows row next (omega arith))) behind.1
