-- What the bus kept is a run.
use Rattle.std.specs.Prelude.{◌≡◌, ℕ, Bool, true, List, [], ◌++◌, filter, Some, None}
use Rattle.site_laws.specs.Terms.{BusEntry, Checked, Disks, Entry, IsAired, IsNode, IsRun, Kind, MayHold, Node, Path, PlanView, Setting, Store, WholeSound, disks, is_of, node_number, node_of, opening, topology_of, world_after}
use Rattle.photon_model.specs.Images.{image}
use Rattle.site_laws.specs.Kinds.{StateOf, rows_of, cell_of, kept_of, down_over}
use Rattle.site_laws.specs.Meaning.{AllMean, StandsFor}

-- the entries of one number, in their order
abbrev pub made_by : ℕ → List BusEntry → List BusEntry
made_by n h = filter (is_of n) h

-- Each node that there is was down over its records, and its own entries have led it to where it is; no other number has any.
pub record EachWalked (g : Setting) (d : Disks) (h : List BusEntry) (at : (n : Node) → StateOf n) : Type 0 where
  pub paths : (n : Node) → IsNode g n → Path (rows_of n) (down_over g d n) (made_by (node_number n) h) (at n)
  pub no_others : (m : ℕ) → node_of g m ≡ None → made_by m h ≡ []

-- The history is a run of the model, entry by entry, and each node stands where its own entries have led it.
pub record IsRunOf (g : Setting) (d : Disks) (h : List BusEntry) (at : (n : Node) → StateOf n) (es : List Entry) : Type 0 where
  pub means : AllMean g h es
  pub run : IsRun g (opening d) es
  pub stands : (n : Node) → IsNode g n → StandsFor g (cell_of (world_after g (opening d) es) n) (at n)

-- what an Air's bus kept, where each node's own entries lead through its states, is a run
abbrev pub AiredIsRun : Type 0
AiredIsRun =
    (g : Setting) (d : Disks) (plan : PlanView) (kinds : List Kind) (h : List BusEntry) (at : (n : Node) → StateOf n) →
    IsAired plan kinds h → EachWalked g d h at → (es : List Entry) × IsRunOf g d h at es

-- records that all disks may hold: of each node those of its state, or those and its open turn's note; of others what they held
pub record MayLeave (g : Setting) (d : Disks) (at : (n : Node) → StateOf n) (left : Disks) : Type 0 where
  pub nodes : (n : Node) → IsNode g n → MayHold (rows_of n) (at n) (kept_of left n)
  pub others : (n : Node) → (IsNode g n → ⊥) → kept_of left n ≡ kept_of d n

-- whatever the disks may hold is what stops now leave, for some choice of the nodes whose notes have landed
abbrev pub LeftIsImage : Type 0
LeftIsImage =
    (g : Setting) (d : Disks) (h : List BusEntry) (at : (n : Node) → StateOf n) (es : List Entry) (left : Disks) →
    IsRunOf g d h at es → MayLeave g d at left → (landed : Node → Bool) × (image g (world_after g (opening d) es) landed ≡ left)

-- so some run leaves it: this one, with a stop of each node that has an open turn at its end
abbrev pub LeftIsRun : Type 0
LeftIsRun =
    (g : Setting) (d : Disks) (h : List BusEntry) (at : (n : Node) → StateOf n) (es : List Entry) (left : Disks) →
    IsRunOf g d h at es → MayLeave g d at left →
    (stops : List Entry) × IsRun g (opening d) (es ++ stops) × (disks (world_after g (opening d) (es ++ stops)) ≡ left)

-- and a sound store stays sound, whatever its disks may hold
abbrev pub LeftIsWhole : Type 0
LeftIsWhole =
    (g : Setting) (s : Store) (h : List BusEntry) (at : (n : Node) → StateOf n) (es : List Entry) (left : Disks) →
    Checked g → WholeSound g s → s.topology ≡ Some (topology_of g) → IsRunOf g s.disks h at es → MayLeave g s.disks at left →
    WholeSound g (record { topology = s.topology; disks = left; is_used = true })
