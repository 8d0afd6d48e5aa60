-- Lists of shards that stand for the states of their numbers, changed in one place.
use Rattle.std.proofs.Common.{◌≡◌, ℕ, ◌+◌, ◌<◌, ◌≤◌, false, List, ◌++◌, length, take, drop, get_or, set, refl, sym, ◌∙◌, subst, ⊎_elim, arith}
use Rattle.registry_server.proofs.Words.{cases_eq, get_or-set_same, get_or-set_other, length-set, append-nil, take_all, drop_all, ShardState, IsShard, EachStands, Shard, empty_shard}

-- one shard in the place of another, which stands for whatever that one stands for
pub set_each : (xs : List Shard) (f : ℕ → ShardState) (i : ℕ) (old new : Shard) → i < length xs → old ≡ get_or xs i old → ((st : ShardState) → IsShard old st → IsShard new st) → EachStands xs f → EachStands (set xs i new) f
set_each xs f i old new w is same h = grind (arith, get_or-set_same, get_or-set_other, length-set)

-- one more is empty
pub empty_more : (xs : List Shard) (i : ℕ) (x : Shard) → i < length xs → IsShard x empty_shard → ((s : ℕ) (d : Shard) → s < i → IsShard (get_or xs s d) empty_shard) → (s : ℕ) (d : Shard) → s < i + 1 → IsShard (get_or (set xs i x) s d) empty_shard
empty_more xs i x w is below s d lt = grind (arith, get_or-set_same, get_or-set_other)

-- Up to a place the shards were released, and from it on they are as at the start.
pub record Released (start items : List Shard) (i : ℕ) : Type 0 where
  pub many : length items ≡ length start
  pub below : (f : ℕ → ShardState) → EachStands start f → (s : ℕ) (d : Shard) → s < i → s < length start → IsShard (get_or items s d) (record (f s) { held = false })
  pub rest : (s : ℕ) (d : Shard) → i ≤ s → get_or items s d ≡ get_or start s d

pub released_none : (xs : List Shard) → Released xs xs 0
released_none xs = record { many = refl; below = λ f h s d w lt. absurd (omega arith); rest = λ s d w. refl }

pub released_more : (start items : List Shard) (i : ℕ) (old new : Shard) → i < length items → old ≡ get_or items i old → ((st : ShardState) → IsShard old st → IsShard new (record st { held = false })) → Released start items i → Released start (set items i new) (i + 1)
released_more start items i old new w is release r =
    record {
      many = length-set items i new ∙ r.many;
      below = λ f h s d lt in_start. ⊎_elim (λ (e : s ≡ i). subst (λ n. IsShard (get_or (set items i new) n d) (record (f n) { held = false })) (sym e) (here f h d)) (λ (ne : s ≡ i → ⊥). subst (λ x. IsShard x (record (f s) { held = false })) (sym (get_or-set_other items i s new d ne)) (r.below f h s d (omega arith) in_start)) (cases_eq s i);
      rest = λ s d lt. get_or-set_other items i s new d (λ e. omega arith) ∙ r.rest s d (omega arith);
    }
  where
    here : (f : ℕ → ShardState) → EachStands start f → (d : Shard) → IsShard (get_or (set items i new) i d) (record (f i) { held = false })
    here f h d = grind (arith, get_or-set_same)

pub released_all : (start items : List Shard) (i : ℕ) → length items ≤ i → Released start items i → (f : ℕ → ShardState) → EachStands start f → EachStands items (λ s. record (f s) { held = false })
released_all start items i most r f h = λ s d lt. let n = r.many in r.below f h s d (omega arith) (omega arith)

-- a slice that takes the whole of a list is the list
pub written_back : (items start : List Shard) (n : ℕ) → length items ≡ length start → length items ≤ n → take n (items ++ drop (length items) start) ≡ items
written_back items start n e most = grind (arith, drop_all, append-nil, take_all)
