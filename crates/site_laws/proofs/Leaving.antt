-- What all disks may hold is an image of the model's world after the run.
use Rattle.std.proofs.Common.{◌≡◌, ⊎_elim, Bool, true, List, [], ◌∷◌, ◌++◌, refl, ◌∙◌, subst, arith}
use Rattle.site_laws.proofs.Words.{Setting, IsNode, Node, Dispatcher, Server, Replica, Joiner, World, Entry, Begin, End, Stop, Disks, disks, after, world_after, May, IsRun, opening, WholeSound, RunsKeepWhole, left_by, image, ImagesAreRuns, Cell, BusEntry, State, Rows, MayHold, StateOf, rows_of, cell_of, kept_of, is_node_or, IsRunOf, MayLeave, LeftIsWhole}
use Rattle.site_laws.specs.Meaning.{StandsFor}
use Rattle.site_laws.proofs.Stepping.{OneSpelling, Begins, Ends, Stops, Deed, entry_of, model_row, one_reading}
use Rattle.site_laws.proofs.Lifting.{CellOf, put_else, after_is, cell_opening}

-- ---- one kind of node

module _ {K L : Type 0} (rows : Rows K L) (g : Setting) (one : OneSpelling) (c : Cell K L) (s : State K L) (stands : StandsFor g c s) (k : K) where
  -- whether the open turn's note has landed in what is left
  abbrev pub Landed : Type 0
  Landed = (b : Bool) × (left_by rows.lands (model_row rows g c) b c ≡ k)

  pub held : MayHold rows s k → Landed
  held m = grind (arith, one_reading)

-- ---- numbers that no node has

module _ (g : Setting) (n : Node) (none : IsNode g n → ⊥) where
  deed_still : (w : World) (m : Node) (deed : Deed) → May g w (entry_of m deed) → cell_of (after g w (entry_of m deed)) n ≡ cell_of w n
  deed_still w m deed may = grind (arith, after_is, put_else)

  entry_still : (w : World) (e : Entry) → May g w e → cell_of (after g w e) n ≡ cell_of w n
  entry_still w (Begin m i) may = deed_still w m (Begins i) may
  entry_still w (End m made ps kept) may = deed_still w m (Ends made ps kept) may
  entry_still w (Stop m landed) may = deed_still w m (Stops landed) may

  run_still : (w : World) (es : List Entry) → IsRun g w es → cell_of (world_after g w es) n ≡ cell_of w n
  run_still w [] run = refl
  run_still w (e ∷ es) run = run_still (after g w e) es run.1 ∙ entry_still w e run.0

-- ---- all nodes

module _ (one : OneSpelling) (g : Setting) (d : Disks) (h : List BusEntry) (at : (n : Node) → StateOf n) (es : List Entry) (left : Disks) (is : IsRunOf g d h at es) (leaves : MayLeave g d at left) where
  abbrev cell_at : (n : Node) → CellOf n
  cell_at n = cell_of (world_after g (opening d) es) n

  abbrev LandedAt : Node → Type 0
  LandedAt n = (b : Bool) × (left_by (rows_of n).lands (model_row (rows_of n) g (cell_at n)) b (cell_at n) ≡ kept_of left n)

  -- a number that no node has is down over what it held
  other_at : (n : Node) → (IsNode g n → ⊥) → LandedAt n
  other_at n none = grind (arith, run_still, cell_opening)

  landed_at : (n : Node) → LandedAt n
  landed_at n = ⊎_elim (λ k. held (rows_of n) g one (cell_at n) (at n) (is.stands n k) (kept_of left n) (leaves.nodes n k)) (other_at n) (is_node_or g n)

  pub left_image : (landed : Node → Bool) × (image g (world_after g (opening d) es) landed ≡ left)
  left_image = (
    λ n. (landed_at n).0,
    λ t. record {
      dispatchers = λ s. (landed_at (Dispatcher s)).1 t;
      servers = λ s. (landed_at (Server s)).1 t;
      replicas = λ r. (landed_at (Replica r)).1 t;
      joiners = λ j. (landed_at (Joiner j)).1 t;
    },
  )

  pub left_run : ImagesAreRuns → (stops : List Entry) × IsRun g (opening d) (es ++ stops) × (disks (world_after g (opening d) (es ++ stops)) ≡ left)
  left_run images = let x = images g d es left_image.0 is.run in (x.0, x.1, x.2 ∙ left_image.1)

-- a sound store stays sound
pub left_whole : OneSpelling → RunsKeepWhole → LeftIsWhole
left_whole one keeps g s h at es left checked sound kept is leaves =
    let x = left_image one g s.disks h at es left is leaves in
    subst (λ (q : Disks). WholeSound g (record { topology = s.topology; disks = q; is_used = true })) x.1 (keeps g s es x.0 checked sound kept is.run)
