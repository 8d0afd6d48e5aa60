-- Why a drill gives up, and which of its joiners stop, by the stops that its plan has.
use Rattle.std.proofs.Common.{◌≡◌, ℕ, ◌+◌, ◌<◌, ◌≤◌, ◌==◌, Bool, true, false, ◌||◌, List, [], ◌∷◌, map, Option, Some, None, Ok, IsTrue, if◌then◌else◌, refl, sym, ap, subst, arith, filter, ne_eqb}
use Rattle.photon_cli.proofs.Words.{list_any, IfSome, IsSomeAnd, Each, DiskName, DiskKind, Epoch, Output, Fuse, PlanStop, PlanView, ReportLine, RunFault, RunLog, Images, IsCauseOf, IsWelcome, Kept, KeptDisk, KeepsAs, EpochIs, IsKept, NotesAre, Setting, limit_at, limit_in, HasOutcome, Outcome, one_outcome, is_at, is_for, is_joiners, is_planned, of_joiners, planned_for, AtMost, StopsAtMost, StopsAsPlanned, none_of_joiners, RanAfresh, IsDrilled, IsHeardOf, IsOfDrill, AllInAll, Node, SparesNodes, ShardRow, StorePlace, Values, config_of, fuse_of, names_of}
use Rattle.site_store.specs.Plans.{HasSoon}
use Rattle.outside.specs.declared.store.DiskName.TheVariants as name
use Rattle.run_fault.specs.declared.fault.RunFault.TheVariants as fault

-- ---- stops that a plan doesn't have

-- a stop that isn't of a joiner's kind of disk is for none of these
not_at : (there : Bool) (kind : DiskKind) (which : Option ℕ) (n : ℕ) → of_joiners kind ≡ false → (is_at kind which (if there then Some (Epoch, n) else None) ≡ false) × (is_at kind which (if there then Some (Output, n) else None) ≡ false)
not_at h kind which n other = grind arith

either : (a b : Bool) → (a || b) ≡ false → (a ≡ false) × (b ≡ false)
either true b e = absurd cc
either false b e = (refl, e)

none_for : (joiners : ℕ) (disk : DiskName) → ((stop : PlanStop) → is_joiners stop ≡ false → is_for joiners stop disk ≡ false) → (stops : List PlanStop) → list_any is_joiners stops ≡ false → planned_for joiners stops disk ≡ []
none_for joiners disk spares [] none = refl
none_for joiners disk spares (stop ∷ stops) none = grind (arith, either, none_for joiners disk spares stops)

none_planned : (fuses : List Fuse) → fuses ≡ [] → AtMost (is_planned fuses) 0 0
none_planned fuses none n from is = let here : IsTrue (is_planned [] n) = subst (λ (f : List Fuse). IsTrue (is_planned f n)) none is in absurd (cc here)

-- ---- stops that spare nodes

none_step : (b : Bool) (n : ℕ) (stop : PlanStop) (stops : List PlanStop) → n < 3 → 3 ≤ stop.call → is_planned (map fuse_of stops) n ≡ false → is_planned (map fuse_of (if b then stop ∷ stops else stops)) n ≡ false
none_step true n stop stops below late none = let other : (stop.call == n) ≡ false = ne_eqb stop.call n (λ is. absurd (omega (arith, below, late, is))) in rw other none
none_step false n stop stops below late none = none

none_early : (joiners n : ℕ) (disk : DiskName) (stops : List PlanStop) → n < 3 → Each (λ stop. 3 ≤ stop.call) stops → is_planned (planned_for joiners stops disk) n ≡ false
none_early joiners n disk [] below late = refl
none_early joiners n disk (stop ∷ stops) below late = none_step (is_for joiners stop disk) n stop (filter (λ s. is_for joiners s disk) stops) below late.0 (none_early joiners n disk stops below late.1)

none_of_topology : (joiners : ℕ) (stops : List PlanStop) → planned_for joiners stops name.Topology ≡ []
none_of_topology joiners [] = refl
none_of_topology joiners (stop ∷ stops) = none_of_topology joiners stops

-- none is met while a disk is opened
pub never_soon : {S : Type 0} (stops : S → DiskName → ℕ → Bool) (made : S → DiskName → ℕ) (store : S) (joiners : ℕ) (planned : List PlanStop) → ((disk : DiskName) (n : ℕ) → stops store disk n ≡ is_planned (planned_for joiners planned disk) n)
    → ((disk : DiskName) → made store disk ≡ 0) → Each (λ stop. 3 ≤ stop.call) planned → (disk : DiskName) → HasSoon stops made store disk → ⊥
never_soon stops made store joiners planned calls fresh late name.Topology soon = soon (λ n from is. let none : is_planned (planned_for joiners planned name.Topology) n ≡ false = ap (λ (fuses : List Fuse). is_planned fuses n) (none_of_topology joiners planned) in absurd (cc (is, calls name.Topology n, none)))
never_soon stops made store joiners planned calls fresh late disk soon = grind (arith, none_early)

-- no stops do
one_at_most : (joiners : ℕ) (disk : DiskName) → StopsAtMost joiners [] disk 1
one_at_most joiners disk n from is = let here : IsTrue false = is in absurd (cc here)

none_at_most : (joiners : ℕ) (disk : DiskName) → StopsAtMost joiners [] disk 0
none_at_most joiners disk n from is = let here : IsTrue false = is in absurd (cc here)

few_of : (v : Values) (table : List ShardRow) (n : Node) → AllInAll (StopsAtMost v.nodes.joiners []) (names_of (config_of v.horizon v.nodes table) n) 1
few_of v table h = grind (arith, one_at_most, none_at_most)

pub none_spares : (v : Values) → SparesNodes v []
none_spares v = record { late = tt; few = few_of v }

pub no_stops : (v : Values) (stops : List PlanStop) → stops ≡ [] → (SparesNodes v stops → ⊥) → ⊥
no_stops v stops none some = some (subst (SparesNodes v) (sym none) (none_spares v))

-- ---- why it gives up

-- no bytes keep a number at its limit
unlimited : (disk : DiskName) (kept : Kept) → KeepsAs kept [] → limit_at disk kept ≡ None
unlimited disk (EpochIs epoch) keeps = let read : Ok 0 ≡ Ok epoch = keeps in let zero : epoch ≡ 0 = cc in rw zero refl
unlimited disk (NotesAre []) keeps = refl
unlimited disk (NotesAre (n ∷ ns)) keeps = absurd (cc keeps.1)
unlimited disk _ keeps = refl

-- nor an epoch near the last one
never_near : (epoch : ℕ) → KeepsAs (EpochIs epoch) [] → 4294967294 ≤ epoch + 8 → ⊥
never_near epoch keeps near = let read : Ok 0 ≡ Ok epoch = keeps in let zero : epoch ≡ 0 = cc in absurd (omega (arith, near, zero))

module _ (g : Setting) (before : Images) (nothing : (disk : DiskName) (c : List ℕ) → before disk c → c ≡ []) where
  none_limited : (disks : List KeptDisk) → Each (IsKept before) disks → limit_in disks ≡ None
  none_limited [] kept = refl
  none_limited (d ∷ ds) kept = grind (arith, unlimited, none_limited ds kept.1)

  pub of_drill : (read faulted holds stops : Type 0) → holds → (f : RunFault) → ((at : StorePlace) → f ≡ fault.Store at → stops) → IsCauseOf g before read faulted f → IsWelcome holds f → IsOfDrill stops f
  of_drill read faulted holds stops x h more cause fair = grind (arith, none_limited, never_near)

pub more_stops : (less more : Type 0) → (less → more) → (f : RunFault) → IsOfDrill less f → IsOfDrill more f
more_stops less more to h is = grind arith

-- ---- a file and its plan

pub one_in : (file : Option (List ℕ)) (a b : Outcome PlanView) → IsSomeAnd file (λ bytes. HasOutcome bytes a) → IsSomeAnd file (λ bytes. HasOutcome bytes b) → a ≡ b
one_in None a b h k = absurd h
one_in (Some bytes) a b h k = one_outcome bytes a b h k

-- ---- what is known of a run's history

pub drilled : (o : Option RunLog) (g : Setting) (plan : PlanView) (joiners : ℕ) (lines : List ReportLine) → g.config.joiners ≡ joiners → IsSomeAnd o (λ l. RanAfresh g l.air.history lines) → IfSome o (IsHeardOf plan joiners)
    → IfSome o (λ l. StopsAsPlanned (StopsAtMost joiners plan.stops) g l.air.history) → IsSomeAnd o (IsDrilled g plan lines)
drilled None g plan joiners lines same ran heard few = absurd ran
drilled (Some log) g plan joiners lines same ran heard few = record {
  ran = ran;
  heard = subst (λ j. IsHeardOf plan j log) (sym same) heard;
  stops = subst (λ j. StopsAsPlanned (StopsAtMost j plan.stops) g log.air.history) (sym same) few;
  whole = λ none. ran.whole (λ stopped.
      none_of_joiners (StopsAtMost joiners plan.stops) g log.air.history
      (λ site joiner. (
        none_planned (planned_for joiners plan.stops (name.Epoch site joiner)) (none_for joiners (name.Epoch site joiner) (λ stop other. (not_at _ stop.disk stop.which _ other).0) plan.stops none),
        none_planned (planned_for joiners plan.stops (name.Output site joiner)) (none_for joiners (name.Output site joiner) (λ stop other. (not_at _ stop.disk stop.which _ other).1) plan.stops none),
      )) few stopped.0 stopped.1 stopped.2);
}
