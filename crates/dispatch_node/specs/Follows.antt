-- What a dispatcher knows fits what its disks keep, so they take the note of each of its rows.
use Rattle.std.specs.Prelude.{◌≡◌, ℕ, ◌<◌, ◌≤◌, true, false, List, [], ◌∷◌}
use Rattle.dispatch_node.specs.Terms.{DispatcherKept, DispatcherLive, Fresh, has, waits}

-- from the place a on the entries follow one another, none of them empty, and the last ends at or before z
abbrev pub AreInOrder : ℕ → List Fresh → ℕ → Type 0
AreInOrder a [] z = a ≤ z
AreInOrder a (f ∷ fs) z = (a ≤ f.position) × (f.position < f.end_) × AreInOrder f.end_ fs z

-- the entries follow the offset, those that wait aren't pending, and what is due or in trial is
pub record Follows (k : DispatcherKept) (l : DispatcherLive) : Type 0 where
  pub fresh : AreInOrder k.offset l.fresh l.place
  pub waiting : (p : ℕ) → waits l.fresh p ≡ true → has k.pending p ≡ false
  pub due : (p : ℕ) → has l.due p ≡ true → has k.pending p ≡ true
  pub trying : (p : ℕ) → has l.trying p ≡ true → has k.pending p ≡ true
