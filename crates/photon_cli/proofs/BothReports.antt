-- A verification prints the same before and after a resharding.
use Rattle.std.proofs.Common.{◌≡◌, ◌≢◌, ◌⊎◌, inl, inr, ⊎_elim, ◌++◌, ℕ, zero, suc, ◌+◌, ◌*◌, ◌<◌, ◌≤◌, List, [], ◌∷◌, Bool, true, false, Option, None, Some, Result, Ok, Err, IsTrue, map, refl, sym, ap, subst, ◌∙◌, arith, if◌then◌else◌}
use Rattle.std.specs.Prelude.{find, is_some, nat_lt}
use Rattle.event_id.specs.EventId.{is_same as same_id}
use Rattle.log_records.specs.declared.report.ReportLine.TheVariants.{M, U, X}
use Rattle.turn_defs.specs.declared.node.Node.TheVariants.{Joiner, Replica}
use Rattle.photon_cli.proofs.Words.{REPLICAS, list_any, IsSomeAnd, IsClickLog, ClickRec, ClickLine, DiskName, EventId, HoldSameRecords, Images, IsLogOf, IsOverLog, IsSoundStore, IsTold, KeptStore, KeptValues, PairRec, PrintsKept, ReportLine, SameIsSound, Setting, VerifyEnds, IsReadable, ShardRow, StaysAs, Text, Topology, Unfit, distinct, is_missing, text_of}
use Rattle.photon_cli.specs.SameReport.{LeavesOnly}
use Rattle.photon_cli.specs.Reshard.{HasOwnRow, LeftAt}
use Rattle.photon_cli.specs.Verify.{IsOver}
use Rattle.gate_journal.specs.Gate.{gate_rule}
use Rattle.gate_journal.specs.Opening.{IsOpened}
use Rattle.gate_journal.specs.Fold.{read_as}
use Rattle.outside.specs.declared.store.DiskName.TheVariants as name
use Rattle.registry_state.specs.LookBack.{bound_of, holder}
use Rattle.registry_state.specs.declared.Batch.{Batch}
use Rattle.time_shards.specs.declared.AddFault.{AddFault}
use Rattle.topology_journal.specs.Topologies as journal
use Rattle.turn_defs.specs.Setting.{IsJoiner, first_joiner, shard}
use Rattle.photon_model.proofs.Journals.{values_same}
use Rattle.photon_model.specs.Adding.{RowKeepsReport, with_row}
use Rattle.photon_model.specs.Journals.{decided, journals}
use Rattle.photon_model.specs.Report.{all_pairs, line_by, line_of, pair_of, pairs_from, report}
use Rattle.photon_model.specs.Runs.{Disks}
use Rattle.photon_model.specs.Sound.{SoundStore}
use Rattle.photon_model.specs.Topology.{Store, Topology as PlainTopology, topology_of}
use Rattle.photon_model.proofs.Words.{BallotNote}
use Rattle.verify_pass.specs.TooSoon.{all_batches, too_soon_for}
use Rattle.verify_pass.specs.declared.starts.TooSoon.{TooSoon}
use Rattle.site_laws.proofs.Keeping.{keeps_again, one_value}
use Rattle.site_laws.proofs.Naming.{by_topology}
use Rattle.site_laws.proofs.SameDisks.{disk_onward, keeps_onward}
use Rattle.site_laws.specs.StoreLaws.{ReadNotesAreKept, ReadTopologyIsKept, TopologyFits}
use Rattle.site_laws.specs.Stores.{AreLeft, Bytes, HoldsRecords, IsDisk, KeepSound, KeepsOf}
use Rattle.site_store.proofs.Recorded.{left_with}
use Rattle.site_store.proofs.Report.{its, many_are, named, notes_are, of as its_records}
use Rattle.site_store.specs.Adding.{IsAnswer, accepted, answer_of, answer_to}
use Rattle.site_store.specs.Leaving.{IsAsked as HasTopology}
use Rattle.site_store.specs.Records.{AreKept}

-- ---- the report is of the records of the setting's nodes

pairs_same : (d e : Disks) (from n : ℕ) → ((j : ℕ) → from ≤ j → j < from + n → d.joiners j ≡ e.joiners j) → pairs_from d from n ≡ pairs_from e from n
pairs_same d e from zero same = refl
pairs_same d e from (suc n) same = grind (arith, pairs_same d e (suc from) n)

module _ (h : Setting) (d e : Disks) (replicas : (r : ℕ) → r < h.config.replicas → d.replicas r ≡ e.replicas r) (joiners : (j : ℕ) → IsJoiner h j → d.joiners j ≡ e.joiners j) where
  same_journals : journals h.config.replicas d.replicas ≡ journals h.config.replicas e.replicas
  same_journals = values_same (λ r. (d.replicas r).notes) (λ r. (e.replicas r).notes) 0 h.config.replicas (λ r low lt. ap (λ k. k.notes) (replicas r (omega (arith, lt))))

  same_pairs : all_pairs h d ≡ all_pairs h e
  same_pairs = pairs_same d e (first_joiner h) (2 * h.config.joiners) (λ j low lt. joiners j (low, lt))

  same_by : (i : EventId) (p : Option PairRec) → line_by h d i p ≡ line_by h e i p
  same_by i None = ap (λ (js : List (List BallotNote)). if is_some (holder (decided js (shard h i)) i) then M i else if nat_lt i.micros (bound_of (decided js (shard h i))) then X i else U i) same_journals
  same_by i (Some p) = refl

  same_line : (i : EventId) → line_of h d i ≡ line_of h e i
  same_line i = same_by i (pair_of h d i) ∙ ap (line_by h e i) (ap (find (λ (p : PairRec). same_id p.click.id i)) same_pairs)

  report_same : report h d ≡ report h e
  report_same = λ k. map (λ (c : ClickRec). same_line c.id k) (distinct (map (λ (l : ClickLine). l.click) h.clicks))

-- ---- a row that was added

no_answer : (why : Unfit) (t : Topology) → ◌≡◌ {A = Result Topology Unfit} (Err why) (Ok t) → ⊥
no_answer why t e = cc

-- a topology is the kept one with the row, which nothing that was accepted forbids
record IsLonger (kept : Option Topology) (batches : List Batch) (row : ShardRow) (t : Topology) : Type 0 where
  was : Topology
  is_kept : kept ≡ Some was
  longer : journal.topology_of was.joiners (was.table ++ row ∷ []) ≡ t
  free : too_soon_for batches row.start ≡ None

by_parts : (joiners start : ℕ) (r : Result (List ShardRow) AddFault) (soon : Option TooSoon) (t : Topology) → answer_of joiners start r soon ≡ Ok t
    → (table : List ShardRow) × (r ≡ Ok table) × (journal.topology_of joiners table ≡ t) × (soon ≡ None)
by_parts joiners start h soon t e = grind (arith, no_answer)

answered : (kept : Option Topology) (batches : List Batch) (row : ShardRow) (t : Topology) → answer_to kept batches row ≡ Ok t → IsLonger kept batches row t
answered h batches row t e = grind (arith, no_answer, by_parts)

-- ---- a store of which a stop leaves no choice

abbrev KeepsIn : Option Topology → List ℕ → Type 0
KeepsIn = journal.Keeps

-- bytes that stand for the same keep the same topology, and only one
keeps_on : (kept : Option Topology) (c d : List ℕ) → gate_rule c ≡ gate_rule d → KeepsIn kept c → KeepsIn kept d
keeps_on kept c d e k = ap (read_as journal.topologies) (sym e) ∙ k

one_topology : (t u : Option Topology) (c : List ℕ) → KeepsIn t c → KeepsIn u c → t ≡ u
one_topology t u c k l = one_value (read_as journal.topologies (gate_rule c)) t u k l

module _ (read : ReadTopologyIsKept) (notes : ReadNotesAreKept) (fits : TopologyFits) (once : HoldSameRecords) (same : SameIsSound) (row_keeps : RowKeepsReport) (g : Setting) (b : Bytes) (three : g.config.replicas ≡ REPLICAS) where
  -- whatever a stop leaves of each disk but the topology's stands for what these bytes stand for
  abbrev OthersStand : Images → Type 0
  OthersStand image = (disk : DiskName) → IsDisk g disk → disk ≢ name.Topology → (c : List ℕ) → image disk c → gate_rule c ≡ gate_rule (b disk)

  abbrev TopologyStands : Images → Type 0
  TopologyStands image = (c : List ℕ) → image name.Topology c → gate_rule c ≡ gate_rule (b name.Topology)

  -- so records that it leaves are those of the bytes
  held : (image : Images) → OthersStand image → (s : Store) → AreLeft g image s → HoldsRecords g b s.disks
  held image stands s left = by_topology (λ disk. IsDisk g disk → KeepsOf g s.disks disk (b disk)) (λ is. tt)
      (λ disk other is. let x = left.records disk is in keeps_again g s.disks disk x.0 (b disk) (stands disk is other x.0 x.1) x.2)

  -- also where it is said of the setting with a row more
  held_longer : (image : Images) → OthersStand image → (row : ShardRow) (s : Store) → AreLeft (with_row g row) image s → HoldsRecords g b s.disks
  held_longer image stands row s left = by_topology (λ disk. IsDisk g disk → KeepsOf g s.disks disk (b disk)) (λ is. tt)
      (λ disk other is.
      let x = left.records disk (disk_onward g (with_row g row) refl refl disk is) in
      keeps_again g s.disks disk x.0 (b disk) (stands disk is other x.0 x.1) (keeps_onward (with_row g row) g refl refl s.disks disk x.0 x.2))

  module _ (sound : KeepSound g b) where
    -- the topology is the setting's
    own : (t : Topology) → KeepsIn (Some t) (b name.Topology) → record { joiners = t.joiners; table = t.table } ≡ topology_of g
    own t k = fits g b (record { joiners = t.joiners; table = t.table }) sound (read (Some t) (b name.Topology) k)

    over : (log : List ℕ) → IsLogOf log g → (t : Topology) → KeepsIn (Some t) (b name.Topology) → IsOver log t g
    over log of t k = record { clicks = of; joiners = ap (λ (u : PlainTopology). u.joiners) (sym (own t k)); table = ap (λ (u : PlainTopology). u.table) (sym (own t k)); replicas = three }

    -- records of the bytes have one report
    one_report : (d e : Disks) → HoldsRecords g b d → HoldsRecords g b e → report g d ≡ report g e
    one_report d e hd he = let is = once g b d e hd he in report_same g d e (λ r lt. is (Replica r) lt) (λ j own. is (Joiner j) own)

    longer_report : (row : ShardRow) (d e : Disks) → HoldsRecords g b d → HoldsRecords g b e → report (with_row g row) d ≡ report (with_row g row) e
    longer_report row d e hd he = let is = once g b d e hd he in report_same (with_row g row) d e (λ r lt. is (Replica r) lt) (λ j own. is (Joiner j) own)

    sound_records : (d : Disks) → HoldsRecords g b d → SoundStore g d
    sound_records d holds = same g sound.0.disks d (once g b sound.0.disks d sound.1.records holds) sound.2.records

    -- ---- what was told before and after

    module _ (log : List ℕ) (of : IsLogOf log g) (cs : List ClickRec) (valid : IsClickLog log cs) (before between after : Images) (others : OthersStand before) (others_on : OthersStand between) (others_after : OthersStand after) (at : TopologyStands before) (at_on : TopologyStands between)
        (k l : KeptStore) (lines later : List ReportLine) (told : IsTold before log k lines) (told_later : IsTold after log l later) where
      was : KeepsIn k.topology (b name.Topology)
      was = let x = told.topology in keeps_on k.topology x.0 (b name.Topology) (at x.0 x.1) x.2

      -- where the kept topology stayed
      stayed : (o : Option Topology) → k.topology ≡ o → l.topology ≡ k.topology → lines ≡ later
      stayed None is e = told.nothing is cs valid ∙ sym (told_later.nothing (e ∙ is) cs valid)
      stayed (Some t) is e =
          let over_t = over log of t (subst (λ o. KeepsIn o (b name.Topology)) is was) in
          let x = told.something t is g over_t in
          let y = told_later.something t (e ∙ is) g over_t in
          x.told ∙ one_report x.store.disks y.store.disks (held before others x.store x.left) (held after others_after y.store y.left) ∙ sym y.told

      -- where it has the row
      module _ (row : ShardRow) (t : Topology) (is : l.topology ≡ Some t) (v : KeptValues) (kept : AreKept true between REPLICAS 0 v) (answer : IsAnswer v row (Ok t)) where
        it : IsLonger v.topology (accepted v.disks) row t
        it = answered v.topology (accepted v.disks) row t answer.is

        kept_was : KeepsIn (Some it.was) (b name.Topology)
        kept_was = let x = kept.topology refl in subst (λ o. KeepsIn o (b name.Topology)) it.is_kept (keeps_on v.topology x.0 (b name.Topology) (at_on x.0 x.1) x.2)

        k_is : k.topology ≡ Some it.was
        k_is = one_topology k.topology (Some it.was) (b name.Topology) was kept_was

        over_longer : IsOver log t (with_row g row)
        over_longer =
            record {
              clicks = record { lines = of.lines; short = of.short };
              joiners = (over log of it.was kept_was).joiners ∙ ap (λ (u : Topology). u.joiners) it.longer;
              table = ap (λ (rows : List ShardRow). rows ++ row ∷ []) (over log of it.was kept_was).table ∙ ap (λ (u : Topology). u.table) it.longer;
              replicas = three;
            }

        own_kept : AreKept true between g.config.replicas 0 v
        own_kept = subst (λ n. AreKept true between n 0 v) (sym three) kept

        asked : HasTopology it.was g
        asked = record { joiners = (over log of it.was kept_was).joiners; table = (over log of it.was kept_was).table }

        -- the records that the resharding read
        abbrev its_own : Disks
        its_own = its true refl between g v own_kept it.was it.is_kept asked

        read_own : HoldsRecords g b its_own
        read_own =
            let left = left_with true refl between 0 g v own_kept (many_are true refl between g v own_kept it.was it.is_kept asked) its_own (its_records true refl between g v own_kept it.was it.is_kept asked) read notes in
            held between others_on (record { topology = left.0; disks = its_own; is_used = true }) left.1

        free : too_soon_for (all_batches (journals g.config.replicas its_own.replicas)) row.start ≡ None
        free =
            ap (λ (js : List (List BallotNote)). too_soon_for (all_batches js) row.start)
            (sym (notes_are g its_own v.disks (named true refl between g v own_kept it.was it.is_kept asked) own_kept.kinds (its_records true refl between g v own_kept it.was it.is_kept asked))) ∙ it.free

        longer : lines ≡ later
        longer =
            let x = told.something it.was k_is g (over log of it.was kept_was) in
            let y = told_later.something t is (with_row g row) over_longer in
            x.told ∙ one_report x.store.disks its_own (held before others x.store x.left) read_own ∙ sym (row_keeps g its_own row (sound_records its_own read_own) free)
            ∙ longer_report row its_own y.store.disks read_own (held_longer after others_after row y.store y.left) ∙ sym y.told

    -- ---- over what is left of the disks

    module _ (log : List ℕ) (of : IsLogOf log g) (cs : List ClickRec) (valid : IsClickLog log cs) (before between after : Images) (only : LeavesOnly g before b) (stays : (disk : DiskName) → StaysAs (before disk) (between disk)) (text : Text) (status : ℕ)
        (left : LeftAt text between after status) where
      stand : OthersStand before
      stand disk is other c now = only.only disk is c now

      stand_on : OthersStand between
      stand_on disk is other c now = let x = stays disk c now in x.2 ∙ only.only disk is x.0 x.1

      stand_after : OthersStand after
      stand_after disk is other c now = let x = left.others disk other c now in x.2 ∙ stand_on disk is other x.0 x.1

      top : TopologyStands before
      top c now = only.only name.Topology tt c now

      top_on : TopologyStands between
      top_on c now = let x = stays name.Topology c now in x.2 ∙ only.only name.Topology tt x.0 x.1

      module _ (k l : KeptStore) (lines later : List ReportLine) (told : IsTold before log k lines) (told_later : IsTold after log l later) where
        by_left : (c : List ℕ) → KeepsIn l.topology c → IsOpened (between name.Topology) c ⊎ HasOwnRow text between c → lines ≡ later
        by_left c keeps (inl x) =
            stayed log of cs valid before between after stand stand_on stand_after top top_on k l lines later told told_later k.topology refl
            (one_topology l.topology k.topology (b name.Topology) (keeps_on l.topology c (b name.Topology) (x.2 ∙ top_on x.0 x.1) keeps) (was log of cs valid before between after stand stand_on stand_after top top_on k l lines later told told_later))
        by_left c keeps (inr (row, is, (t, (v, kept, answer), written))) =
            longer log of cs valid before between after stand stand_on stand_after top top_on k l lines later told told_later row t (one_topology l.topology (Some t) c keeps written.keeps) v kept answer

        pub same_lines : lines ≡ later
        same_lines = let x = told_later.topology in by_left x.0 x.2 (left.topology x.0 x.1)

-- ---- by how the calls ended

-- what a verification that reported printed, and its status
abbrev pub Printed : (told : Text → Option (List ℕ)) → Text → Images → (old new : List ℕ) → ℕ → Type 0
Printed told clicks image old new status = (missing : Bool) × PrintsKept told clicks image missing old new × (status ≡ (if missing then 1 else 0))

module _ (logs sinks disks : Bool) (told : Text → Option (List ℕ)) (files output errors : Type 0) (old new err_old err_new : List ℕ) (status : ℕ) (clicks : Text) (same : Type 0) (before after : Images) (faulted : Type 0)
    (v : VerifyEnds logs sinks told files output errors old new err_old err_new status clicks same disks before after faulted) (log : IsTrue logs) (done : (status ≡ 0) ⊎ (status ≡ 1)) where
  pub readable : IsReadable told clicks
  readable = ⊎_elim (λ x. absurd (⊎_elim x.1 x.0.1 done)) (λ x. x.0 log) v.begins

  pub printed : IsTrue sinks → IsTrue disks → Printed told clicks before old new status
  printed sink disk = ⊎_elim (λ zero. (false, v.whole log sink disk zero, zero)) (λ one. (true, v.missing log sink disk one, one)) done

module _ (read : ReadTopologyIsKept) (notes : ReadNotesAreKept) (fits : TopologyFits) (once : HoldSameRecords) (same : SameIsSound) (row_keeps : RowKeepsReport) (g : Setting) (b : Bytes) (three : g.config.replicas ≡ REPLICAS) (before between after : Images) (sound : IsSoundStore g before)
    (only : LeavesOnly g before b) (stays : (disk : DiskName) → StaysAs (before disk) (between disk)) (text : Text) (status : ℕ) (left : LeftAt text between after status) where
  lines_same : (o p : Option (List ℕ)) → p ≡ o → IsSomeAnd o (λ log. IsLogOf log g) → (cs : List ClickRec) → IsSomeAnd o (λ log. IsClickLog log cs) → (k l : KeptStore) (lines later : List ReportLine) → IsSomeAnd o (λ log. IsTold before log k lines)
      → IsSomeAnd p (λ log. IsTold after log l later) → lines ≡ later
  lines_same None p e of cs valid k l lines later told told_later = absurd of
  lines_same (Some log) p e of cs valid k l lines later told told_later =
      same_lines read notes fits once same row_keeps g b three (sound b only.some) log of cs valid before between after only stays text status left k l lines later told (subst (λ (o : Option (List ℕ)). IsSomeAnd o (λ x. IsTold after x l later)) e told_later)

  pub both_same : (told told_later : Text → Option (List ℕ)) (clicks : Text) → told_later clicks ≡ told clicks → IsOverLog told clicks g → IsReadable told clicks → (old new old_later new_later : List ℕ) (first last : ℕ) → Printed told clicks before old new first
      → Printed told_later clicks after old_later new_later last → (first ≡ last) × ((t : List ℕ) × (new ≡ old ++ t) × (new_later ≡ old_later ++ t))
  both_same told told_later clicks e over (cs, valid) old new old_later new_later first last (missing, (k, lines, are, some, text_is), by) (missing_later, (l, later, are_later, some_later, text_later), by_later) =
      let lines_are = lines_same (told clicks) (told_later clicks) e over cs valid k l lines later are are_later in (
        by ∙ ap (λ (m : Bool). if m then 1 else 0) (some ∙ ap (list_any is_missing) lines_are ∙ sym some_later) ∙ sym by_later,
        (text_of lines, text_is, text_later ∙ ap (λ (ls : List ReportLine). old_later ++ text_of ls) (sym lines_are)),
      )
