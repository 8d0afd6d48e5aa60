-- What an index knows of the lines with a record. In each list the last line comes first.
use Rattle.std.specs.Prelude.{ℕ, ◌≡◌, ◌+◌, ◌%◌, ◌<◌, ◌≤◌, ◌==◌, ◌&&◌, ◌||◌, nat_lt, not, Bool, true, false, List, [], ◌∷◌, if◌then◌else◌, Option, Some, None, IfSome, IsSome, option_map, unwrap_or}
use Rattle.std.specs.Option.{option_or}
use Rattle.std.specs.Ordering.{nat_cmp, ordering_then}
use Rattle.std.specs.declared.cmp.Ordering.{Ordering}
use Rattle.std.specs.BTreeMap as tree
use Rattle.event_id.specs.declared.id.EventId.{EventId}
use Rattle.event_id.specs.EventId.{is_same, id_cmp}
use Rattle.event_store.specs.declared.index.Process.{Process}
use Rattle.event_store.specs.declared.index.Progress.{Progress}
use Rattle.event_store.specs.declared.index.Index.{Index}
use Rattle.event_store.specs.Order.{is_in_order, entries_among}

-- a line with a record: where its first byte stands, and its id
pub record Mark : Type 0 where
  pub place : ℕ
  pub id : EventId

abbrev pub ids_of : List Mark → List EventId
ids_of [] = []
ids_of (m ∷ earlier) = m.id ∷ ids_of earlier

-- whether two processes are one
abbrev pub same_key : Process → Process → Bool
same_key a b = (a.ip == b.ip) && (a.pid == b.pid)

-- by the address as a number, then the process id
abbrev pub key_cmp : Process → Process → Ordering
key_cmp a b = ordering_then (nat_cmp a.ip b.ip) (nat_cmp a.pid b.pid)

abbrev pub key_of : EventId → Process
key_of id = record { ip = id.ip; pid = id.pid }

-- how many in-order lines a process has, and the micros of the last of them
abbrev pub progress : List EventId → Process → Progress
progress [] p = record { lines = 0; last = 0 }
progress (id ∷ earlier) p = if same_key p (key_of id) && is_in_order earlier id then record { lines = (progress earlier p).lines + 1; last = id.micros } else progress earlier p

-- whether the line is the first of sixteen in-order lines of its process
abbrev pub begins : List EventId → EventId → Bool
begins earlier id = is_in_order earlier id && ((progress earlier (key_of id)).lines % 16 == 0)

-- the place of the entry that an id has
abbrev pub entry_of : List Mark → EventId → Option ℕ
entry_of [] k = None
entry_of (m ∷ earlier) k = if is_same k m.id && begins (ids_of earlier) m.id then Some m.place else entry_of earlier k

-- the place of the first stray line with the id
abbrev pub stray_of : List Mark → EventId → Option ℕ
stray_of [] k = None
stray_of (m ∷ earlier) k = option_or (stray_of earlier k) (if is_same k m.id && not (is_in_order (ids_of earlier) m.id) then Some m.place else None)

-- how far a process has come
abbrev pub progress_at : tree.BTreeMap Process Progress → Process → Progress
progress_at processes p = unwrap_or (tree.get key_cmp processes p) (record { lines = 0; last = 0 })

-- whether a line with these micros would be in order behind them
abbrev pub admits : Progress → ℕ → Bool
admits g m = (g.lines == 0) || nat_lt g.last m

-- each process is as far as it was
abbrev pub HasStayed : tree.BTreeMap Process Progress → tree.BTreeMap Process Progress → Type 0
HasStayed old new = (p : Process) → progress_at new p ≡ progress_at old p

-- a process that had come so far has one line more, which is in order
pub record HasCounted (old new : tree.BTreeMap Process Progress) (process : Process) (micros : ℕ) (was : Progress) : Type 0 where
  pub before : was ≡ progress_at old process
  pub order : admits was micros ≡ true
  pub room : IsSome (tree.get key_cmp new process)
  pub moved : (p : Process) → progress_at new p ≡ (if same_key p process then record { lines = was.lines + 1; last = micros } else progress_at old p)

-- the index of these lines
pub record Keeps (index : Index) (marks : List Mark) : Type 0 where
  pub progress : (p : Process) → progress_at index.processes p ≡ progress (ids_of marks) p
  pub entries : (k : EventId) → tree.get id_cmp index.entries k ≡ entry_of marks k
  pub strays : (k : EventId) → tree.get id_cmp index.strays k ≡ stray_of marks k
  pub count : tree.btree_map_len index.entries + tree.btree_map_len index.strays ≡ entries_among (ids_of marks)

-- the first line with an id: its place, and whether it is in order
pub record First : Type 0 where
  pub place : ℕ
  pub ordered : Bool

abbrev pub as_first : Mark → List Mark → First
as_first m earlier = record { place = m.place; ordered = is_in_order (ids_of earlier) m.id }

abbrev pub first_of : List Mark → EventId → Option First
first_of [] k = None
first_of (m ∷ earlier) k = option_or (first_of earlier k) (if is_same k m.id then Some (as_first m earlier) else None)

-- and where it begins
abbrev pub place_of : List Mark → EventId → Option ℕ
place_of marks k = option_map (λ f. f.place) (first_of marks k)

-- the places fall, from below this one
abbrev pub Falls : ℕ → List Mark → Type 0
Falls place [] = Unit {0}
Falls place (m ∷ earlier) = (m.place < place) × Falls m.place earlier

-- a line with a record begins at the place
abbrev pub Begins : List Mark → ℕ → Type 0
Begins marks s = (k : EventId) × (f : First) × (first_of marks k ≡ Some f) × (f.place ≡ s)

-- the first line with the id, if there is one, isn't in order
abbrev pub IsStray : List Mark → EventId → Type 0
IsStray marks id = (f : First) → first_of marks id ≡ Some f → f.ordered ≡ false

-- no line with the id stands before the start, and no in-order one at or behind the end
abbrev pub IsSegment : List Mark → EventId → ℕ → Option ℕ → Type 0
IsSegment marks id start end_ = Begins marks start × ((f : First) → first_of marks id ≡ Some f → start ≤ f.place) × IfSome end_ (λ e. Begins marks e × (start < e) × ((f : First) → first_of marks id ≡ Some f → f.ordered ≡ true → f.place < e))
