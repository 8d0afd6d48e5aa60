-- A map from ids to groups, with one insert more or without an id.
use Rattle.std.proofs.Common.{◌≡◌, ℕ, true, cond, List, [], ◌∷◌, ◌++◌, arith}
use Rattle.std.specs.Prelude.{Option, Some, None, unwrap_or, Result, OnErr, is_err}
use Rattle.batch_queue.proofs.Words.{append-nil, EventId, same_id, Insert, with_id}
use Rattle.batch_queue.proofs.Numbered.{same_id-flip}

abbrev pub Group : Type 0
Group = List (ℕ × Insert)

-- what a map has for an id, none being as good as nothing
abbrev pub at : (EventId → Option Group) → EventId → Group
at held i = unwrap_or (held i) []

-- a group that is written as it was
pub written_same : (was held : EventId → Option Group) (id : EventId) (g : Group) → ((i : EventId) → held i ≡ cond (same_id id i) (Some g) (was i)) → was id ≡ Some g → (i : EventId) → at held i ≡ at was i
written_same was held id g f e i = grind arith

-- a new group of one insert
pub written_new : (was held : EventId → Option Group) (n : ℕ) (x : Insert) (g : Group) → g ≡ (n, x) ∷ [] → ((i : EventId) → held i ≡ cond (same_id x.id i) (Some g) (was i)) → was x.id ≡ None
    → (i : EventId) → at held i ≡ at was i ++ with_id i ((n, x) ∷ [])
written_new was held n x g one f e i = grind (arith, same_id-flip, append-nil)

-- without an id
pub taken_out : (was held : EventId → Option Group) (id : EventId) → ((i : EventId) → held i ≡ cond (same_id id i) None (was i)) → (i : EventId) → at held i ≡ cond (same_id id i) [] (at was i)
taken_out was held id f i = grind arith

-- a call that fails
pub failed : {T E : Type 0} (r : Result T E) (P : Type 0) → is_err r ≡ true → OnErr r P → P
failed r P h p = grind arith

pub err_weaker : {T E : Type 0} (r : Result T E) (P Q : Type 0) → (P → Q) → OnErr r P → OnErr r Q
err_weaker r P Q f h = grind arith
