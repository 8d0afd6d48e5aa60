-- The dispatcher's rows of the turn table. One dispatcher a site has joiners join each click of the log.
use Rattle.std.specs.Prelude.{ℕ, ◌+◌, Bool, true, false, not, ◌&&◌, ◌||◌, ◌==◌, nat_lt, List, [], ◌∷◌, ◌++◌, length, if◌then◌else◌, Option, Some, None}
use Rattle.turn_defs.specs.declared.limits.TheConstants.{WINDOW}
use Rattle.log_records.specs.declared.records.ClickRec.{ClickRec as Click}
use Rattle.log_records.specs.Lines.{ClickLine, at}
use Rattle.list_words.specs.Lists.{has, without}
use Rattle.turn_defs.specs.Setting.{Setting}
use Rattle.turn_defs.specs.declared.packet.Packet.{Packet}
use Rattle.turn_defs.specs.declared.packet.Packet.TheVariants.{Join, Joined}
use Rattle.turn_defs.specs.declared.packet.Outcome.{Outcome}
use Rattle.turn_defs.specs.declared.packet.Outcome.TheVariants.{Written, Already, TooOld, NoQuery, Busy}
use Rattle.turn_defs.specs.declared.node.To.{To}
use Rattle.turn_defs.specs.declared.node.To.TheVariants.{AnyJoiner}
use Rattle.turn_defs.specs.declared.node.Input.{Input}
use Rattle.turn_defs.specs.declared.node.Input.TheVariants.{Start, Own, Tick, Deliver}
use Rattle.turn_defs.specs.Turns.{Note, Advance, Park, Settle, Out, idle, is_empty}

-- what its disks hold: the offset, and the positions parked and not settled, in order
pub record DispatcherKept : Type 0 where
  pub offset : ℕ
  pub pending : List ℕ

-- a click line that was taken and is not behind the offset yet
pub record Fresh : Type 0 where
  pub position : ℕ
  pub end_ : ℕ
  pub click : Click
  pub done : Bool

-- what it knows while it is up: the end of the last line taken, the lines taken, the pending positions that are due and
-- those in trial, and whether no whole line was found after the place
pub record DispatcherLive : Type 0 where
  pub place : ℕ
  pub fresh : List Fresh
  pub due : List ℕ
  pub trying : List ℕ
  pub ended : Bool

-- what its disks hold once a note is written
abbrev pub land_dispatcher : Note → DispatcherKept → DispatcherKept
land_dispatcher (Advance e) k = record k { offset = e }
land_dispatcher (Park p) k = record k { pending = k.pending ++ p ∷ [] }
land_dispatcher (Settle p) k = record k { pending = without k.pending p }
land_dispatcher _ k = k

-- the end of the leading done entries, e where the first is not done; and the entries after them
abbrev pub done_end : ℕ → List Fresh → ℕ
done_end e [] = e
done_end e (f ∷ fs) = if f.done then done_end f.end_ fs else e

abbrev pub after_done : List Fresh → List Fresh
after_done [] = []
after_done (f ∷ fs) = if f.done then after_done fs else f ∷ fs

-- whether the first entry is done
abbrev pub first_done : List Fresh → Bool
first_done [] = false
first_done (f ∷ fs) = f.done

-- an entry that is not done has this position
abbrev pub waits : List Fresh → ℕ → Bool
waits [] p = false
waits (f ∷ fs) p = ((f.position == p) && not f.done) || waits fs p

-- the entries, those of this position being done
abbrev pub mark_one : ℕ → Fresh → Fresh
mark_one p f = if f.position == p then record f { done = true } else f

abbrev pub mark : List Fresh → ℕ → List Fresh
mark [] p = []
mark (f ∷ fs) p = mark_one p f ∷ mark fs p

-- at most so many lines are in fresh or in trial
abbrev pub has_room : DispatcherLive → Bool
has_room l = nat_lt (length l.fresh + length l.trying) WINDOW

-- a Join goes to any one joiner of the site
abbrev pub join : ℕ → ℕ → Click → To × Packet
join site p c = (AnyJoiner site, Join p c)

module _ (g : Setting) (site : ℕ) (k : DispatcherKept) (l : DispatcherLive) where
  -- the offset passes the leading done entries
  abbrev pub advances : Out DispatcherLive
  advances = record { note = Some (Advance (done_end k.offset l.fresh)); packets = []; live = record l { fresh = after_done l.fresh } }

  -- the first due position is tried again
  abbrev pub retries : ℕ → List ℕ → Option ClickLine → Out DispatcherLive
  retries p ps None = idle l
  retries p ps (Some c) = record { note = None; packets = join site p c.click ∷ []; live = record l { due = ps; trying = l.trying ++ p ∷ [] } }

  -- the line enters fresh
  abbrev pub taken : ClickLine → Bool → DispatcherLive
  taken c done = record l { place = c.end_; fresh = l.fresh ++ (record { position = c.place; end_ = c.end_; click = c.click; done = done }) ∷ [] }

  -- the line at the place is taken; a pending one is done from the first
  abbrev pub takes : Option ClickLine → Out DispatcherLive
  takes None = record { note = None; packets = []; live = record l { ended = true } }
  takes (Some c) =
      if has k.pending c.place
      then record { note = None; packets = []; live = taken c true }
      else record { note = None; packets = join site c.place c.click ∷ []; live = taken c false }

  -- there is room: a due position goes before a new line
  abbrev pub with_room : List ℕ → Out DispatcherLive
  with_room (p ∷ ps) = retries p ps (at g.clicks p)
  with_room [] = if l.ended then idle l else takes (at g.clicks l.place)

  abbrev pub dispatcher_own : Out DispatcherLive
  dispatcher_own = if first_done l.fresh then advances else if has_room l then with_room l.due else idle l

  -- a Join for each entry that is not done, and for each position in trial
  abbrev pub fresh_joins : List Fresh → List (To × Packet)
  fresh_joins [] = []
  fresh_joins (f ∷ fs) = if f.done then fresh_joins fs else join site f.position f.click ∷ fresh_joins fs

  abbrev pub join_if : ℕ → Option ClickLine → List (To × Packet) → List (To × Packet)
  join_if p None rest = rest
  join_if p (Some c) rest = join site p c.click ∷ rest

  abbrev pub trying_joins : List ℕ → List (To × Packet)
  trying_joins [] = []
  trying_joins (p ∷ ps) = join_if p (at g.clicks p) (trying_joins ps)

  abbrev pub dispatcher_tick : Out DispatcherLive
  dispatcher_tick = record { note = None; packets = fresh_joins l.fresh ++ trying_joins l.trying; live = l }

  -- the join at p has ended
  abbrev pub ends : ℕ → Out DispatcherLive
  ends p =
      if waits l.fresh p
      then record { note = None; packets = []; live = record l { fresh = mark l.fresh p } }
      else if has l.trying p
      then record { note = Some (Settle p); packets = []; live = record l { trying = without l.trying p } }
      else idle l

  -- there is no query for the click at p yet
  abbrev pub parks : ℕ → Out DispatcherLive
  parks p =
      if waits l.fresh p
      then record { note = Some (Park p); packets = []; live = record l { fresh = mark l.fresh p } }
      else if has l.trying p
      then record { note = None; packets = []; live = record l { trying = without l.trying p } }
      else idle l

  abbrev pub dispatcher_joined : ℕ → Outcome → Out DispatcherLive
  dispatcher_joined p Written = ends p
  dispatcher_joined p (Already h) = ends p
  dispatcher_joined p (TooOld b) = ends p
  dispatcher_joined p (NoQuery n) = parks p
  dispatcher_joined p Busy = idle l

  abbrev pub dispatcher_gets : Packet → Out DispatcherLive
  dispatcher_gets (Joined p o) = dispatcher_joined p o
  dispatcher_gets _ = idle l

  abbrev pub dispatcher_turn : Input → Out DispatcherLive
  dispatcher_turn Own = dispatcher_own
  dispatcher_turn Tick = dispatcher_tick
  dispatcher_turn (Deliver from packet) = dispatcher_gets packet
  dispatcher_turn Start = idle l

-- it comes up
abbrev pub dispatcher_start : DispatcherKept → Out DispatcherLive
dispatcher_start k = record { note = None; packets = []; live = record { place = k.offset; fresh = []; due = k.pending; trying = []; ended = false } }

-- an Own row applies
abbrev pub dispatcher_wants : DispatcherLive → Bool
dispatcher_wants l = first_done l.fresh || (has_room l && (not (is_empty l.due) || not l.ended))

-- an Own row looks in the log: at the first due position, or else at the place
abbrev pub dispatcher_looks : DispatcherLive → Bool
dispatcher_looks l = not (first_done l.fresh) && (has_room l && (not (is_empty l.due) || not l.ended))

-- an entry is not done
abbrev pub some_waits : List Fresh → Bool
some_waits [] = false
some_waits (f ∷ fs) = not f.done || some_waits fs

-- it waits for an answer, so it takes a Tick
abbrev pub dispatcher_unfinished : DispatcherLive → Bool
dispatcher_unfinished l = some_waits l.fresh || not (is_empty l.trying)

abbrev pub dispatcher_at_rest : DispatcherLive → Bool
dispatcher_at_rest l = l.ended && (is_empty l.fresh && (is_empty l.due && is_empty l.trying))
