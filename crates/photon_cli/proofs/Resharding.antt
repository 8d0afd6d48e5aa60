-- How a resharding ends at each fault.
use Rattle.std.proofs.Common.{◌≡◌, ◌≢◌, ◌⊎◌, inl, inr, ⊎_elim, ◌++◌, ℕ, List, Bool, true, None, Result, Ok, Err, IsTrue, codes, refl, sym, ap, subst, ◌∙◌, arith}
use Rattle.photon_cli.proofs.Words.{REPLICAS, DiskName, Images, IsSoundStore, KeptValues, HasCause, HasFailed, Setting, ShardRow, StorePlace, StoreFault, RunFault, Text, Topology, Unfit, LeavesSomething, cause_more, failed_rose, first_limit, goes_on_through, goes_on_within, kept_are_journals, message, of_place, sound_placed, status_of, unasked, TookPrefix, HasRow, IsCauseFor, IsRowOf, ReshardEnds}
use Rattle.outside.specs.declared.store.DiskName.TheVariants as name
use Rattle.run_fault.specs.declared.fault.RunFault.TheVariants as fault
use Rattle.list_words.proofs.Lists.{each_more}
use Rattle.time_shards.proofs.Texts.{row_same}
use Rattle.time_shards.specs.Text.{table_text}
use Rattle.site_laws.specs.StoreLaws.{ReadTopologyIsKept, TopologyFits}
use Rattle.site_store.specs.Adding.{Answers, HasRow as KeepsRow, IsAdded, IsRowCause, Leaves, NoneTold}
use Rattle.site_store.specs.Records.{AreKept}
use Rattle.site_store.specs.Written.{IsWritten}
use Rattle.site_store.proofs.Added.{unchanged}
use Rattle.site_store.proofs.Damage.{no_damage}
use Rattle.outside.specs.declared.faults.StoreFault.TheVariants as store
use Rattle.photon_cli.specs.Reshard.{Adds, HasOwnRow, IsForbidden, IsNamedInReshard, LeftAt}
use Rattle.site_store.specs.Refusals.{IsFirstDisk}
use Rattle.photon_cli.proofs.Statuses.{damaged_of, failed_of, line_of, mismatch_of, no_one, no_zero, place_of, two_of, write_of}

-- ---- a row and its text

-- a text is one row's
pub one_row : (text : Text) (row other : ShardRow) → IsRowOf text row → IsRowOf text other → row ≡ other
one_row text row other is also = row_same row other is.0 also.0 (sym is.1 ∙ also.1)

-- ---- from a store that was placed to the one before

module _ (placed before : Images) (within : (disk : DiskName) (c : List ℕ) → placed disk c → before disk c) where
  kept_before : (k : KeptValues) → AreKept true placed REPLICAS 0 k → AreKept true before REPLICAS 0 k
  kept_before k are = grind (arith, each_more)

  answers_before : (row : ShardRow) (answer : Result Topology Unfit) → Answers true placed REPLICAS row answer → Answers true before REPLICAS row answer
  answers_before row answer (k, are, is) = (k, kept_before k are, is)

  written_before : (t : Topology) (c : List ℕ) → IsWritten (placed name.Topology) t c → IsWritten (before name.Topology) t c
  written_before t c w = record { from = w.from; was = within name.Topology w.from w.was; records = w.records; stood = w.stood; stands = w.stands; keeps = w.keeps }

  pub added_before : (tells : Bool) → IsTrue tells → (row : ShardRow) (after : Images) (table : List ShardRow) → IsAdded tells placed REPLICAS row after table → IsAdded true before REPLICAS row after table
  added_before tells sure row after table is = grind (arith, answers_before, written_before)

  pub row_before : (tells : Bool) → IsTrue tells → (row : ShardRow) (c : List ℕ) → KeepsRow tells placed REPLICAS row c → KeepsRow true before REPLICAS row c
  row_before tells sure row c has = grind (arith, answers_before, written_before)

  abbrev Told : (tells : Bool) → Images → ShardRow → RunFault → Type 0
  Told tells image row f = (why : Unfit) × (f ≡ fault.Reshard why) × Answers tells image REPLICAS row (Err why)

  told_before : (tells : Bool) → IsTrue tells → (row : ShardRow) (f : RunFault) → Told tells placed row f → Told true before row f
  told_before tells sure row f (why, is, answers) = (why, is, answers_before row (Err why) (subst (λ (b : Bool). Answers b placed REPLICAS row (Err why)) sure answers))

  pub cause_before : (tells : Bool) → IsTrue tells → (row : ShardRow) (rose faulted : Type 0) → (rose → faulted) → (f : RunFault) → IsRowCause tells placed REPLICAS row rose f → IsCauseFor before faulted row f
  cause_before tells sure row rose faulted more f cause =
      by_kind f (subst (λ (b : Bool). HasCause b before REPLICAS None NoneTold (λ log. ⊥) (λ at. faulted) ⊥ (Told true before row f) f) sure
      (cause_more tells REPLICAS None placed before within NoneTold NoneTold (λ disks told is. is) (λ log. ⊥) (λ log. ⊥) (HasFailed tells placed REPLICAS None NoneTold rose) (λ at. faulted) ⊥ ⊥ (Told tells placed row f) (Told true before row f)
      (λ log x. x) (λ at failed. more (failed_rose tells placed REPLICAS None NoneTold rose at failed)) (λ x. x) (told_before tells sure row f) f cause))
    where
      other : (why : Unfit) → fault.Write ≡ fault.Reshard why → ⊥
      other why e = cc

      by_kind : (g : RunFault) → HasCause true before REPLICAS None NoneTold (λ log. ⊥) (λ at. faulted) ⊥ (Told true before row g) g → IsCauseFor before faulted row g
      by_kind h x = grind (arith, other)

-- what isn't added for this is named so
pub named_row : (tells : Bool) (placed : Images) (row : ShardRow) (rose : Type 0) (text : Text) (f : RunFault) → HasRow text → IsRowCause tells placed REPLICAS row rose f → IsNamedInReshard text f
named_row tells placed row rose text h has cause = grind arith

-- a directory that isn't placed is no fault of the output
pub place_status : (s : StoreFault) (f : RunFault) → f ≡ of_place s → status_of f ≢ 5
place_status store.Disk f e five = let at : 6 ≡ 5 = sym (ap status_of e) ∙ five in omega (arith, at)
place_status store.Memory f e five = let at : 8 ≡ 5 = sym (ap status_of e) ∙ five in omega (arith, at)

-- and it is no fault of the output
pub not_written : (tells : Bool) (placed : Images) (row : ShardRow) (rose : Type 0) (f : RunFault) → IsRowCause tells placed REPLICAS row rose f → f ≡ fault.Write → ⊥
not_written tells placed row rose f cause is = grind arith

-- ---- at each fault

-- only a fault of the output ends as a row does that was added
pub not_added : (f : RunFault) → f ≢ fault.Write → (status_of f ≡ 0) ⊎ (status_of f ≡ 5) → ⊥
not_added f other = ⊎_elim (no_zero f) (λ five. other (write_of f five))

-- where no disk was taken
pub untaken : (text : Text) (before after : Images) (status : ℕ) → ((status ≡ 0) ⊎ (status ≡ 5) → ⊥) → ((disk : DiskName) (c : List ℕ) → after disk c → before disk c) → LeftAt text before after status
untaken text before after status not within =
    unchanged before after REPLICAS (IsRowOf text) (HasOwnRow text before) _ _ not (λ g sound stay b choice. sound b (λ disk here. within disk (b disk) (choice disk here))) (λ disk c now. (c, within disk c now, refl))

-- what is left of the disks of a store that was placed, by what might have been left before
pub left_before : (tells : Bool) → IsTrue tells → (text : Text) (row : ShardRow) → IsRowOf text row → (placed before after : Images) → ((disk : DiskName) (c : List ℕ) → placed disk c → before disk c) → (sure none : Type 0) (status : ℕ)
    → ((status ≡ 0) ⊎ (status ≡ 5) → sure) → ((status ≢ 0) × (status ≢ 5) × (status ≢ 6) → none) → Leaves placed after REPLICAS (λ r. r ≡ row) (KeepsRow tells placed REPLICAS row) sure none → LeftAt text before after status
left_before tells telling text row is placed before after within sure none status added unadded left = record {
  stays = λ no disk c now. let x = left.stays (unadded no) disk c now in (x.0, within disk x.0 x.1, x.2);
  others = λ disk other c now. let x = left.others disk other c now in (x.0, within disk x.0 x.1, x.2);
  topology = λ c now. ⊎_elim (λ x. inl (x.0, within name.Topology x.0 x.1, x.2)) (λ has. inr (row, is, row_before placed before within tells telling row c has)) (left.topology c now);
  grown = λ disk. goes_on_through (before disk) (placed disk) (after disk) (goes_on_within (before disk) (placed disk) (within disk)) (left.grown disk);
  longer = λ so r own g three sound. left.longer (added so) r (sym (one_row text row r is own)) g three (sound_placed g before placed within sound);
  still = λ no g sound. left.still (unadded no) g (sound_placed g before placed within sound);
  either = λ r own g three sound. left.either r (sym (one_row text row r is own)) g three (sound_placed g before placed within sound);
}

module _ (before : Images) (faulted : Type 0) (row : ShardRow) where
  abbrev Has : RunFault → Type 0
  Has f = IsCauseFor before faulted row f

  pub damaged_row : (f : RunFault) → Has f → ((k : KeptValues) → AreKept true before REPLICAS 0 k → ⊥) → (faulted → ⊥) → (status_of f ≡ 7) ⊎ (status_of f ≡ 8)
  damaged_row h has none still = grind arith

  pub limited_row : (f : RunFault) → Has f → ((k : KeptValues) → AreKept true before REPLICAS 0 k → first_limit k ≢ None) → (faulted → ⊥) → (status_of f ≡ 10) ⊎ ((status_of f ≡ 7) ⊎ (status_of f ≡ 8))
  limited_row h has limit still = grind arith

  pub forbidden_row : (f : RunFault) → Has f → IsForbidden before row → (faulted → ⊥) → (status_of f ≡ 11) ⊎ ((status_of f ≡ 10) ⊎ ((status_of f ≡ 7) ⊎ (status_of f ≡ 8)))
  forbidden_row h has forbids still = grind arith

  pub complete_row : (f : RunFault) → Has f → status_of f ≢ 7 → ((k : KeptValues) → AreKept true before REPLICAS 0 k → first_limit k ≡ None) → (faulted → ⊥) → (f ≡ fault.Write → ⊥) → (status_of f ≡ 8) ⊎ (status_of f ≡ 11)
  complete_row h has fair below still written = grind arith

  -- of a sound store no disk is told as damaged
  pub fair_row : ReadTopologyIsKept → TopologyFits → (g : Setting) → g.config.replicas ≡ REPLICAS → IsSoundStore g before → LeavesSomething g before → (f : RunFault) → Has f → status_of f ≢ 7
  fair_row read fits g replicas sound some f has seven =
      let d = damaged_of f seven in
      let here = subst Has d.2 has in
      no_damage true refl before 0 read fits g (omega arith) sound d.0 d.1 (subst (λ n. IsFirstDisk true before n 0 d.0) (sym replicas) here.0) (λ sure. here.1) some

-- ---- where the row was added

module _ (text : Text) (disks : Bool) (before after : Images) (row : ShardRow) (is : IsRowOf text row) (table : List ShardRow) (added : IsTrue disks → IsAdded true before REPLICAS row after table) where
  pub answer_for : IsTrue disks → (r : ShardRow) → IsRowOf text r → (t : Topology) × Answers true before REPLICAS r (Ok t)
  answer_for d r own = let a = added d in (a.topology, subst (λ (x : ShardRow). Answers true before REPLICAS x (Ok a.topology)) (one_row text row r is own) a.answers)

  pub adds : (says : List ℕ → Type 0) → says (table_text table ++ codes "\n") → IsTrue disks → Adds text before after says
  adds says line d = record { row = row; is = is; table = table; added = added d; line = line }

  pub ends_added : (sinks : Bool) (output errors : Type 0) (old new err : List ℕ) (same faulted : Type 0) → (IsTrue sinks → new ≡ old ++ (table_text table ++ codes "\n"))
      → (IsTrue disks → LeftAt text before after 0) → ReshardEnds sinks output errors old new err err 0 text same disks before after faulted
  ends_added sinks output errors old new err same faulted line left = record {
    added = λ s d zero. adds (λ l. new ≡ old ++ l) (line s) d;
    prefix = λ s d five. absurd (omega (arith, five));
    row = λ two has. omega (arith, two);
    bad_row = λ none. absurd (none (row, is));
    never = (λ e. omega (arith, e), λ e. omega (arith, e), λ e. omega (arith, e), λ e. omega (arith, e));
    stopped = λ e. absurd (omega (arith, e));
    welcome = λ d g replicas whole some e. omega (arith, e);
    damaged = λ d (r, own) g disk taken none still. let (t, (k, kept, answer)) = answer_for d r own in absurd (none (kept_are_journals (unasked g) before k disk kept taken));
    limited = λ d (r, own) g limit still. let (t, (k, kept, answer)) = answer_for d r own in absurd (limit k kept answer.limits);
    forbidden = λ d r own forbids still. let (t, (k, kept, answer)) = answer_for d r own in absurd (forbids k kept t answer.is);
    caused = inl refl;
    tells = λ s calm. inl (refl, refl);
    left = left;
    complete = λ d has g replicas whole some below still quiet. inl refl;
  }

module _ (sinks disks : Bool) (output errors : Type 0) (old new err_old err_new : List ℕ) (text : Text) (same : Type 0) (before after : Images) (faulted : Type 0) where
  pub ends : (f : RunFault) → IsNamedInReshard text f → (IsTrue disks → (row : ShardRow) → IsRowOf text row → IsCauseFor before faulted row f) → ((HasRow text → ⊥) → same × ((status_of f ≡ 2) ⊎ (status_of f ≡ 8)))
      → ((at : StorePlace) → f ≡ fault.Store at → faulted) → (f ≡ fault.Write → output) → (IsTrue sinks → IsTrue disks → f ≡ fault.Write → Adds text before after (λ line. TookPrefix old line new))
      → (IsTrue sinks → (errors → ⊥) → err_new ≡ err_old ++ message f) → (IsTrue disks → (g : Setting) → g.config.replicas ≡ REPLICAS → IsSoundStore g before → LeavesSomething g before → status_of f ≢ 7) → (IsTrue disks → LeftAt text before after (status_of f))
      → ReshardEnds sinks output errors old new err_old err_new (status_of f) text same disks before after faulted
  ends f named causes bad rose wrote prefix tells fair left = record {
    added = λ s d zero. absurd (no_zero f zero);
    prefix = λ s d five. prefix s d (write_of f five);
    row = λ two has. ⊎_elim (λ n. let none : IsNamedInReshard text (fault.Table n.0) = subst (IsNamedInReshard text) n.1 named in none.1 has) (λ p. subst (IsNamedInReshard text) p.1 named) (two_of f two);
    bad_row = bad;
    never = (
      no_one f,
      λ three. let l = line_of f three in subst (IsNamedInReshard text) l.3 named,
      λ four. ⊎_elim (λ is. subst (IsNamedInReshard text) is named) (λ l. subst (IsNamedInReshard text) l.1 named) (failed_of f four),
      λ nine. let m = mismatch_of f nine in subst (IsNamedInReshard text) m.1 named,
    );
    stopped = λ six. let p = place_of f six in rose p.0 p.1;
    welcome = fair;
    damaged = λ d (row, is) g disk taken none still. damaged_row before faulted row f (causes d row is) (λ k kept. none (kept_are_journals (unasked g) before k disk kept taken)) still;
    limited = λ d (row, is) g limit still. limited_row before faulted row f (causes d row is) limit still;
    forbidden = λ d row is forbids still. forbidden_row before faulted row f (causes d row is) forbids still;
    caused = inr (f, refl, (named, causes));
    tells = λ s calm. inr (f, refl, (named, causes), tells s calm);
    left = left;
    complete = λ d (row, is) g replicas sound some below still quiet. inr (complete_row before faulted row f (causes d row is) (fair d g replicas sound some) below still (λ is. quiet (wrote is)));
  }

  -- a directory that isn't placed
  pub ends_place : (row : ShardRow) → IsRowOf text row → (s : StoreFault) (f : RunFault) → f ≡ of_place s → (s ≡ store.Disk → faulted) → (IsTrue disks → (disk : DiskName) (c : List ℕ) → after disk c → before disk c)
      → (IsTrue sinks → (errors → ⊥) → err_new ≡ err_old ++ message f) → ReshardEnds sinks output errors old new err_old err_new (status_of f) text same disks before after faulted
  ends_place row is s f e rose within told = subst (λ (h : RunFault). (IsTrue sinks → (errors → ⊥) → err_new ≡ err_old ++ message h) → ReshardEnds sinks output errors old new err_old err_new (status_of h) text same disks before after faulted) (sym e)
      (by s rose) told
    where
      by : (r : StoreFault) → (r ≡ store.Disk → faulted) → (IsTrue sinks → (errors → ⊥) → err_new ≡ err_old ++ message (of_place r)) → ReshardEnds sinks output errors old new err_old err_new (status_of (of_place r)) text same disks before after faulted
      by store.Disk risen tells =
          ends (of_place store.Disk) (row, is) (λ d r own. risen refl) (λ none. absurd (none (row, is))) (λ at x. risen refl) (λ x. absurd (cc)) (λ a d x. absurd (cc)) tells (λ d g replicas sound some seven. omega (arith, seven))
          (λ d. untaken text before after (status_of (of_place store.Disk)) (not_added (of_place store.Disk) (λ x. cc)) (within d))
      by store.Memory risen tells =
          ends (of_place store.Memory) tt (λ d r own. tt) (λ none. absurd (none (row, is))) (λ at x. absurd (cc)) (λ x. absurd (cc)) (λ a d x. absurd (cc)) tells (λ d g replicas sound some seven. omega (arith, seven))
          (λ d. untaken text before after (status_of (of_place store.Memory)) (not_added (of_place store.Memory) (λ x. cc)) (within d))
