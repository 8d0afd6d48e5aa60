-- A row behind a table's rows, where nothing that a replica accepted forbids its start: no settled id changes its shard.
use Rattle.std.proofs.Common.{◌≡◌, ◌⊎◌, inl, inr, ⊎_elim, ℕ, zero, suc, ◌+◌, ◌%◌, ◌<◌, ◌≤◌, Bool, List, [], ◌∷◌, Some, None, refl, sym, ap, ◌∙◌, subst, arith, Option, is_some, nat_lt, slice_get, if◌then◌else◌}
use Rattle.std.proofs.lemmas.Bool.{cases_lt}
use Rattle.time_shards.specs.declared.ShardRow.{ShardRow}
use Rattle.time_shards.proofs.Tables.{count_before}
use Rattle.log_records.specs.declared.report.ReportLine.{ReportLine}
use Rattle.verify_pass.specs.TooSoon.{batches_in, all_batches, IsEarlier, IsBefore}
use Rattle.verify_pass.proofs.Starting.{none_before}
use Rattle.photon_model.proofs.Words.{EventId, Token, Ballot, Batch, Mem, IsGranted, Registered, Expired, bound_of, first_insert, holder_first, holder_granted, M, X, U, Setting, shard, Place, BallotNote, Promised, Took as Accepted, ReplicaKept, each_at, each_from, each_more, mem_left, mem_right, journals, values_from, known_of, Known, IsWritten, IsSettled, PairRec, PairSound, DispatcherSound, DispatcherKept, IsInsertOf, InsertsOf, SoundStore, accepted_inserts, Disks, Store, WholeSound, topology_of}
use Rattle.photon_model.specs.Journals.{decided}
use Rattle.photon_model.specs.Report.{report}
use Rattle.photon_model.specs.Adding.{with_row, IsFree}
use Rattle.photon_model.proofs.Journals.{accepted_stands, decided_accepted}

-- an accepted batch stands among those of its replica, and of all
own_batches : (ns : List BallotNote) (p : Place) (b : Ballot) (v : Batch) → Mem (Accepted p b v) ns → Mem v (batches_in ns)
own_batches [] p b v m = absurd m
own_batches (n ∷ ns) p b v h = grind (arith, own_batches ns p b v)

from_all : (f : ℕ → ReplicaKept) (from n r : ℕ) (v : Batch) → r < n → Mem v (batches_in (f (from + r)).notes) → Mem v (all_batches (values_from (λ k. (f k).notes) from n))
from_all f from zero r v lt m = absurd (omega arith)
from_all f from (suc n) zero v lt m = grind (arith, mem_left)
from_all f from (suc n) (suc r) v lt m = grind (arith, mem_right, from_all f (suc from) n r v)

bounds : (vs : List Batch) (n : ℕ) → ((k : ℕ) (v : Batch) → slice_get vs k ≡ Some v → v.bound ≤ n) → bound_of vs ≤ n
bounds [] n h = omega arith
bounds (v ∷ vs) n h = let a = h 0 v refl in let b = bounds vs n (λ k u e. h (suc k) u e) in omega arith

module _ (g : Setting) (d : Disks) (row : ShardRow) (s : SoundStore g d) (free : IsFree g d row.start) where
  abbrev longer : Setting
  longer = with_row g row

  abbrev js : List (List BallotNote)
  js = journals g.config.replicas d.replicas

  abbrev known : Known
  known = known_of g d (accepted_inserts g d)

  accepted_early : (r : ℕ) → r < g.config.replicas → (p : Place) (b : Ballot) (v : Batch) → Mem (Accepted p b v) (d.replicas r).notes → IsBefore row.start v
  accepted_early r lt p b v m =
      each_at (IsBefore row.start) (all_batches js) (none_before (all_batches js) row.start free) v
      (from_all d.replicas 0 g.config.replicas r v lt (subst (λ (j : ℕ). Mem v (batches_in (d.replicas j).notes)) (let e : r ≡ 0 + r = omega arith in e) (own_batches (d.replicas r).notes p b v m)))

  decided_early : (k slot : ℕ) (v : Batch) → slice_get (decided js k) slot ≡ Some v → IsBefore row.start v
  decided_early k slot v e = grind (arith, decided_accepted, accepted_stands, accepted_early)

  bound_early : (k : ℕ) → bound_of (decided js k) ≤ row.start
  bound_early k = bounds (decided js k) row.start (λ slot v e. (decided_early k slot v e).0)

  granted_early : (k : ℕ) (i : EventId) (t : Token) → IsGranted (decided js k) i t → i.micros < row.start
  granted_early k i t (slot, (v, e, m), a) = each_at (IsEarlier row.start) v.inserts (decided_early k slot v e).1 (record { id = i; token = t }) m

  first_early : (k : ℕ) (i : EventId) (t : Token) → first_insert (decided js k) i ≡ Some t → i.micros < row.start
  first_early k i t e =
      ⊎_elim (λ lt. let le = bound_early k in omega (arith, lt, le)) (λ le. granted_early k i t (holder_granted (decided js k) i t le e)) (cases_lt i.micros (bound_of (decided js k)))

  same_shard : (i : EventId) → i.micros < row.start → shard longer i ≡ shard g i
  same_shard i lt = ap (λ (n : ℕ). (i.ip + i.pid + i.micros) % n) (count_before g.config.table row 1 i.micros lt)

  abbrev SettledIn : EventId → ℕ → Type 0
  SettledIn i k = (Registered (decided js k) i ⊎ Expired (decided js k) i) ⊎ IsWritten g known i

  settled_early : (i : EventId) (k : ℕ) → SettledIn i k → i.micros < row.start
  settled_early i k (inl (inl x)) = first_early k i x.0 (holder_first (decided js k) i x.0 x.1)
  settled_early i k (inl (inr x)) = let le = bound_early k in omega (arith, x, le)
  settled_early i k (inr (j, p, is, m, same)) =
      let pair = each_at (PairSound g known j (d.joiners j).epoch) (d.joiners j).pairs (s.joiners j is).pairs p m in
      subst (λ (x : EventId). x.micros < row.start) same (granted_early (shard g p.click.id) p.click.id p.token pair.granted)

  pub moves_unsettled : (i : EventId) → (shard longer i ≡ shard g i → ⊥) → IsSettled g (known_of g d []) i → ⊥
  moves_unsettled i moved x = moved (same_shard i (settled_early i (shard g i) x))

  pair_stays : (j epoch : ℕ) (p : PairRec) → PairSound g known j epoch p → PairSound longer known j epoch p
  pair_stays j epoch p x = search (same_shard, granted_early)

  dispatcher_stays : (k : DispatcherKept) → DispatcherSound g known k → DispatcherSound longer known k
  dispatcher_stays k x =
      record {
        boundary = x.boundary;
        starts = x.starts;
        once = x.once;
        passed = λ l m lt. ⊎_elim (λ p. inl p) (λ q. inr (subst (SettledIn l.click.id) (sym (same_shard l.click.id (settled_early l.click.id (shard g l.click.id) q))) q)) (x.passed l m lt);
      }

  note_stays : (r : ℕ) → r < g.config.replicas → (n : BallotNote) → Mem n (d.replicas r).notes → InsertsOf g known n → InsertsOf longer known n
  note_stays r lt (Accepted p b v) m x =
      let early = accepted_early r lt p b v m in
      each_from (IsInsertOf longer known p.shard) v.inserts (λ y k. let own = each_at (IsInsertOf g known p.shard) v.inserts x y k in (same_shard y.id (each_at (IsEarlier row.start) v.inserts early.1 y k) ∙ own.0, own.1))
  note_stays r lt (Promised p b) m x = x

  pub store_stays : SoundStore longer d
  store_stays =
      record {
        replicas = s.replicas;
        joiners = λ j is. let x = s.joiners j is in record { pairs = each_more (PairSound g known j (d.joiners j).epoch) (PairSound longer known j (d.joiners j).epoch) (d.joiners j).pairs (pair_stays j (d.joiners j).epoch) x.pairs; once = x.once };
        dispatchers = λ t lt. dispatcher_stays (d.dispatchers t) (s.dispatchers t lt);
        drawing = record { joinable = s.drawing.joinable; joiner = s.drawing.joiner; epoch = s.drawing.epoch; one_id = s.drawing.one_id };
        inserts = λ r lt. each_from (InsertsOf longer known) (d.replicas r).notes (λ n m. note_stays r lt n m (each_at (InsertsOf g known) (d.replicas r).notes (s.inserts r lt) n m));
      }

  -- the line of an id that isn't written, by whether it lies below the bound, and by its first insert
  abbrev line_for : EventId → Bool → Option Token → ReportLine
  line_for i below first = if is_some (if below then None else first) then M i else if below then X i else U i

  abbrev line_in : EventId → ℕ → ReportLine
  line_in i k = line_for i (nat_lt i.micros (bound_of (decided js k))) (first_insert (decided js k) i)

  line_stays : (i : EventId) → line_in i (shard longer i) ≡ line_in i (shard g i)
  line_stays i = grind (arith, same_shard, bound_early, first_early, cases_lt)

  pub report_stays : report longer d ≡ report g d
  report_stays = grind (arith, line_stays)

pub whole_stays : (g : Setting) (s : Store) (row : ShardRow) → WholeSound g s → IsFree g s.disks row.start → WholeSound (with_row g row) (record s { topology = Some (topology_of (with_row g row)) })
whole_stays g s row w free =
    record {
      records = store_stays g s.disks row w.records free;
      topology = λ e. refl;
      blank = λ e. let b = w.blank e in record { offset = b.offset; pending = b.pending; server_epoch = b.server_epoch; notes = b.notes; joiner_epoch = b.joiner_epoch; pairs = b.pairs };
    }
