-- What a dispatcher decides and keeps.
use Rattle.std.proofs.Common.{◌≡◌, ℕ, List, Option, Some, None, sym, ◌∙◌, subst, arith, option_map}
use Rattle.dispatch_node.proofs.Words.{lines_follow, Input, Setting, Note, Out, land, row_of, DispatcherKept, DispatcherLive, HeldPlaces, Numbered, dispatcher_rows, numbered, land_dispatcher, told, note_of, changed, out_of, HasSameNumbers, IsTurn, Stands, DispatchCore, DispatchNote, Step, Turn, takes_note, GoesOn, Knows, Serves, known, FitsStep, Fits}
use Rattle.site_node.specs.Deciding.{IsTurn as IsRow}
use Rattle.dispatch_node.proofs.Following.{Leaves, turn_goes, start_goes}

-- the row of an input, at what is known
row_is : (g : Setting) (core : DispatchCore) (k : Numbered DispatcherKept) (live : Option DispatcherLive) (i : Input) → core.dealer.site ≡ k.number → Fits live i → out_of g core.dealer.site k.disk (known core live) i ≡ row_of (numbered dispatcher_rows) g k live i
row_is g core k h i site fits = grind arith

row_leaves : (g : Setting) (core : DispatchCore) (log : List ℕ) (held : HeldPlaces) (k : Numbered DispatcherKept) (live : Option DispatcherLive) (i : Input) → Knows core log held g k live → Fits live i → Leaves g k.disk (row_of (numbered dispatcher_rows) g k live i)
row_leaves g core log held k (Some l) i knows fits = turn_goes g k.number k.disk l (lines_follow log g.clicks knows.serves.lines.lines).0 knows.by.0.ordered.apart knows.by.2 knows.by.1 i
row_leaves g core log held k None i knows fits = start_goes g k.disk

-- what is kept once a note is written
landed : (k : Numbered DispatcherKept) (o : Option Note) → land (numbered dispatcher_rows).lands o k ≡ record { number = k.number; disk = land land_dispatcher o k.disk }
landed k h = grind arith

module _ (old new : DispatchCore) (numbers : HasSameNumbers old new) where
  -- deciding changes nothing of what is known
  pub still : (log later : List ℕ) (held : HeldPlaces) (g : Setting) (k : Numbered DispatcherKept) (live : Option DispatcherLive) → later ≡ log → ((l : DispatcherLive) → Stands g old k.disk l → Stands g new k.disk l) → Knows old log held g k live → Knows new later held g k live
  still log later held g k h same stands knows = grind arith

  -- a decided turn is the row's
  pub turned : (log later : List ℕ) (held : HeldPlaces) (turn : Turn) (said : Option DispatchNote) (i : Input) (g : Setting) (k : Numbered DispatcherKept) (live : Option DispatcherLive) → later ≡ log → option_map told said ≡ note_of turn.step.change
      → Knows old log held g k live → Fits live i → IsTurn g new k.disk (known old live) turn (out_of g old.dealer.site k.disk (known old live) i)
      → IsRow (numbered dispatcher_rows).lands (λ x n. takes_note x.disk n) (Serves new later g) (GoesOn new later turn.step g) g k (row_of (numbered dispatcher_rows) g k live i) (option_map told said) turn.packets.items
  turned log later held turn said i g k live same note_is knows fits decided =
      let row = row_of (numbered dispatcher_rows) g k live i in
      let is = subst (λ (o : Out DispatcherLive). IsTurn g new k.disk (known old live) turn o) (row_is g old k live i knows.serves.site fits) decided in
      let leaves = row_leaves g old log held k live i knows fits in
      let places = leaves.places knows.serves.places in
      grind (arith, land, landed)

  -- a kept step makes what was decided
  pub keeps : (log : List ℕ) (held : HeldPlaces) (step : Step) (g : Setting) (k : Numbered DispatcherKept) (l : DispatcherLive)
      → ((was : DispatcherKept) (knew : DispatcherLive) → FitsStep g old was knew step.change → Stands g new (land land_dispatcher (note_of step.change) was) (changed step.change knew)) → GoesOn old log step g k l → Knows new log held g k (Some l)
  keeps log held step g k l stands on = record {
    serves = record { site = numbers.0 ∙ on.serves.site; config = on.serves.config ∙ sym numbers.1; lines = on.serves.lines; places = on.serves.places };
    by = (subst (λ (x : DispatcherKept). Stands g new x l) (sym on.kept) (subst (Stands g new (land land_dispatcher (note_of step.change) on.was)) (sym on.live) (stands on.was on.knew on.fits)), on.places, on.follows);
  }
