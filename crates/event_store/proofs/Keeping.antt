-- The index of one line more.
use Rattle.std.proofs.Common.{◌≡◌, ℕ, ◌+◌, ◌%◌, ◌==◌, ◌&&◌, Bool, true, false, cond, List, ◌∷◌, Some, None, is_some, OnOk, Result, refl, sym, ap, ◌∙◌, arith}
use Rattle.std.specs.BTreeMap as tree
use Rattle.event_store.proofs.Words.{option_or, EventId, is_same, id_cmp, Process, Progress, Index, is_in_order, strays, Mark, Keeps, ids_of, same_key, key_of, progress_at, admits, HasCounted, HasStayed}
use Rattle.event_store.proofs.Changes.{stays_put}
use Rattle.event_store.proofs.Orders.{admitted}
use Rattle.event_store.proofs.Marking.{entry_first, no_first, stray_any}
use Rattle.event_store.proofs.Counting.{stray_more, ordered_more}

pub both_ok : {E A B C : Type 0} (r : Result (Unit {0}) E) → OnOk r A → OnOk r B → (A → B → C) → OnOk r C
both_ok r a b f = grind arith

pub stray_kept : (index after : Index) (id : EventId) (place : ℕ) → ((p : Process) → progress_at after.processes p ≡ progress_at index.processes p) → after.entries ≡ index.entries → ((k : EventId) → tree.get id_cmp after.strays k ≡ option_or (tree.get id_cmp index.strays k) (cond (is_same k id) (Some place) None)) → tree.btree_map_len after.strays ≡ tree.btree_map_len index.strays + cond {A = ℕ} (is_some (tree.get id_cmp index.strays id)) 0 1 → (marks : List Mark) → Keeps index marks → is_in_order (ids_of marks) id ≡ false → Keeps after (record { place = place; id = id } ∷ marks)
stray_kept index after id place moved entries at len marks keeps order = grind (arith, stray_more, stray_any)

pub ordered_kept : (index after : Index) (id : EventId) (place : ℕ) (g : Progress) (starts : Bool) → g ≡ progress_at index.processes (key_of id) → starts ≡ (g.lines % 16 == 0) → ((p : Process) → progress_at after.processes p ≡ cond (same_key p (key_of id)) (record { lines = g.lines + 1; last = id.micros }) (progress_at index.processes p)) → ((k : EventId) → tree.get id_cmp after.entries k ≡ cond (is_same k id && starts) (Some place) (tree.get id_cmp index.entries k)) → (tree.get id_cmp index.entries id ≡ None → tree.btree_map_len after.entries ≡ tree.btree_map_len index.entries + cond {A = ℕ} starts 1 0) → after.strays ≡ index.strays → (marks : List Mark) → Keeps index marks → is_in_order (ids_of marks) id ≡ true → Keeps after (record { place = place; id = id } ∷ marks)
ordered_kept index after id place g starts is starts_is moved at len strays marks keeps order = grind (arith, ordered_more, entry_first, no_first)

-- an id's order by the progress of its process
pub order_is : (index : Index) (id : EventId) (process : Process) → process ≡ key_of id → (t : Bool) → admits (progress_at index.processes process) id.micros ≡ t → (marks : List Mark) → Keeps index marks → is_in_order (ids_of marks) id ≡ t
order_is index id process is t e marks keeps = admitted (ids_of marks) id ∙ ap (λ (g : Progress). admits g id.micros) (sym (keeps.progress (key_of id)) ∙ ap (λ (p : Process). progress_at index.processes p) (sym is)) ∙ e

-- the same entries, and each process as far as it was
pub kept_same : (index after : Index) → HasStayed index.processes after.processes → ((k : EventId) → tree.get id_cmp after.entries k ≡ tree.get id_cmp index.entries k) → tree.btree_map_len after.entries ≡ tree.btree_map_len index.entries → ((k : EventId) → tree.get id_cmp after.strays k ≡ tree.get id_cmp index.strays k) → tree.btree_map_len after.strays ≡ tree.btree_map_len index.strays → (marks : List Mark) → Keeps index marks → Keeps after marks
kept_same index after stays entries entries_len strays strays_len marks keeps = record {
  progress = λ p. stays p ∙ keeps.progress p;
  entries = λ k. entries k ∙ keeps.entries k;
  strays = λ k. strays k ∙ keeps.strays k;
  count = ap (λ (n : ℕ). n + tree.btree_map_len after.strays) entries_len ∙ ap (λ (n : ℕ). tree.btree_map_len index.entries + n) strays_len ∙ keeps.count;
}

-- a process that goes back to where it was
pub gone_back : (old mid new : tree.BTreeMap Process Progress) (process : Process) (micros : ℕ) (was : Progress) → HasCounted old mid process micros was → ((p : Process) → progress_at new p ≡ cond (same_key p process) was (progress_at mid p)) → HasStayed old new
gone_back old mid new process micros was counted back p = back p ∙ ap (λ (g : Progress). cond (same_key p process) was g) (counted.moved p) ∙ twice (same_key p process) _ ∙ stays_put old process was counted.before p
  where
    twice : (t : Bool) (h : Progress) → cond t was (cond t h (progress_at old p)) ≡ cond t was (progress_at old p)
    twice true h = refl
    twice false h = refl
