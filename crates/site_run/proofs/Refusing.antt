-- Why a run over a store gives up, from what opening it tells and what a run of its nodes does.
use Rattle.std.proofs.Common.{◌≡◌, ◌≢◌, inl, inr, ⊎_elim, ℕ, List, [], ◌∷◌, map, Bool, true, Option, Some, None, refl, sym, ◌∙◌, ap, subst, arith, IsTrue, IfSome, IsSomeAnd, Result, Ok, Err, OnOk, IfErr}
use Rattle.site_run.proofs.Words.{eq-eqb, Each, Mem, each_at, BusEntry, DiskName, StoreFault, Topology, end_from, Dispatcher, Server, Replica, Joiner, Node, IsNode, node_number, Setting, IsLogOf, Disks, RunFault, Misplaced, IsCounted, IsWelcome, of_place, limit_at, limit_in, IsKeptIn, IsJournalOf, other_names, Images, IsDisk, joiner_of, place_at, site_of, IsAsked, EpochIs, KeepsEpoch, KeptDisk, KeptEpoch, KeptValues, Says, AreRecordsOf, all_named, at_name, was_journal, AreTold, ArePassed, IsCause, cause_more, failed_rose, passed_more, unread_rose, asked_of, HasPassed, HasSpent, IsCauseOf, IsLate, IsNearLast, IsOfRun, IsSpent, KeptAreJournals, NamesFailed, RunLog, TellsPlaces, disk_of, StorePlace, First, WereKept, IsKept, KeepsKind, Kept, EpochDisk, ServerDisk, TopologyDisk}
use Rattle.outside.specs.declared.faults.StoreFault.TheVariants as store
use Rattle.run_fault.specs.declared.fault.StorePlace.TheVariants as place
use Rattle.run_fault.specs.declared.fault.RunFault.TheVariants as fault
use Rattle.site_run.proofs.Places.{disk_is, of_setting, owner}

-- ---- what is known of a result

pub on_ok_of : {T E P : Type 0} (r : Result T E) → P → OnOk r P
on_ok_of (Ok x) p = p
on_ok_of (Err e) p = tt

pub err_both : {T E : Type 0} (A B C : E → Type 0) (r : Result T E) → IfErr r A → IfErr r B → ((e : E) → A e → B e → C e) → IfErr r C
err_both A B C (Ok x) a b more = tt
err_both A B C (Err e) a b more = more e a b

-- ---- of a store that is opened

module _ (g : Setting) (before : Images) (asked : Topology) (is : IsAsked asked g) (replicas : ℕ) (count : g.config.replicas ≡ replicas) (tells log_tells : Bool) (sure : IsTrue tells) (log_sure : IsTrue log_tells) (log : List ℕ) (end_ : ℕ) (log_is : IsLogOf log g) (end_is : end_ ≡ end_from 0 g.clicks) where
  same_asked : asked ≡ asked_of g
  same_asked i = record { joiners = sym is.joiners i; table = sym is.table i }

  over_log : (disks : List KeptDisk) (told : Option Misplaced) → AreTold log_tells log end_ disks told → TellsPlaces g disks told
  over_log disks told against = against log_sure g log_is end_is

  pub passed_so : (k : KeptValues) → WereKept tells before replicas asked.joiners k → ArePassed log_tells log end_ (Some asked) k → HasPassed g before
  passed_so k are passed = grind (arith, same_asked, passed_more, over_log)

  pub refused_so : (rose store_rose read faulted : Type 0) → (rose → read) → (store_rose → faulted) → (f : RunFault) → IsCause tells before replicas store_rose log_tells log end_ rose (Some asked) f → IsCauseOf g before read faulted f
  refused_so rose store_rose read faulted to_read to_faulted f cause = grind (arith, asked_of, same_asked, cause_more, over_log, unread_rose)

-- its count rose, of the logs or of the disks
pub refusal_counted : (tells : Bool) (before : Images) (replicas : ℕ) (rose : Type 0) (log_tells : Bool) (log : List ℕ) (end_ : ℕ) (read : Type 0) (asked : Option Topology) (logs stores : Type 0) → (read → logs) → (rose → stores)
    → (f : RunFault) → IsCause tells before replicas rose log_tells log end_ read asked f → IsCounted logs stores f
refusal_counted tells before replicas rose log_tells log end_ read asked logs stores to_logs to_stores f is = grind (arith, unread_rose, failed_rose)

-- ---- no epoch that was opened is the last one

none_at : (disks : List KeptDisk) → limit_in disks ≡ None → (d : KeptDisk) → Mem d disks → limit_at d.name d.kept ≡ None
none_at [] none d m = absurd m
none_at (o ∷ os) none d h = grind (arith, none_at os)

not_last : (n : DiskName) (epoch : ℕ) → limit_at n (EpochIs epoch) ≡ None → epoch ≢ 4294967294
not_last n epoch none last = grind (arith, eq-eqb)

module _ (g : Setting) (before : Images) (disks : List KeptDisk) (limits : limit_in disks ≡ None) (kept : Each (IsKept before) disks) (d : Disks) (records : AreRecordsOf g disks d)
    (named : map (λ (k : KeptDisk). k.name) disks ≡ other_names g.config.joiners g.config.replicas) where
  -- a disk that kept an epoch kept none that is the last one
  abbrev KeptLess : DiskName → ℕ → Type 0
  KeptLess disk epoch = (epoch ≢ 4294967294) × IsKeptIn (before disk) (KeepsEpoch epoch) × Mem (record { name = disk; kept = EpochIs epoch }) disks

  of_disk : (disk : DiskName) (epoch : ℕ) → IsDisk g disk → disk ≢ TopologyDisk → ((k : Kept) → Says g d disk k → k ≡ EpochIs epoch) → KeptLess disk epoch
  of_disk disk epoch here other said =
      let o = at_name (λ (d : KeptDisk). d.name) disks disk (subst (λ (l : List DiskName). Mem disk l) (sym named) (all_named g disk here other)) in
      let is = said o.0.kept (subst (λ (m : DiskName). Says g d m o.0.kept) o.2 (each_at (λ (k : KeptDisk). Says g d k.name k.kept) disks records o.0 o.1)) in (
        not_last o.0.name epoch (subst (λ k. limit_at o.0.name k ≡ None) is (none_at disks limits o.0 o.1)),
        subst (λ (m : DiskName). IsKeptIn (before m) (KeepsEpoch epoch)) o.2 (subst (λ k. IsKeptIn (before o.0.name) (KeepsKind k)) is (each_at (IsKept before) disks kept o.0 o.1)),
        subst (λ (k : KeptDisk). Mem k disks) (λ i. record { name = o.2 i; kept = is i }) o.1,
      )

  of_node : (n : Node) (epoch : ℕ) → IsNode g n → KeptEpoch d n epoch → KeptLess (disk_of g.config (node_number n) First) epoch
  of_node (Dispatcher s) epoch is had = absurd had
  of_node (Server s) epoch is had = subst (λ m. KeptLess m epoch) (sym (disk_is g (Server s) is First)) (of_disk (ServerDisk s) epoch is (λ e. cc e) (λ k says. says ∙ ap EpochIs had))
  of_node (Replica r) epoch is had = absurd had
  of_node (Joiner j) epoch is had =
      let site = site_of g.config j in
      let seat = place_at g.config j in
      let number : joiner_of g site seat ≡ j = cc (owner g (Joiner j) (EpochDisk site seat) is (inl refl)) in
      subst (λ m. KeptLess m epoch) (sym (disk_is g (Joiner j) is First))
      (of_disk (EpochDisk site seat) epoch (of_setting g (Joiner j) (EpochDisk site seat) is (inl refl)) (λ e. cc e) (λ k says. says ∙ ap EpochIs (ap (λ m. (d.joiners m).epoch) number ∙ had)))

  -- so a node that came to it has met a fault, and its disk kept one near it
  late : (h : List BusEntry) (rose faulted : Type 0) → (rose → faulted) → (disk : DiskName) (epoch : ℕ) → IsSpent g h d rose disk epoch → (faulted × IsNearLast g before disk) × (epoch ≡ 4294967294)
  late h rose faulted more disk epoch spent =
      let had = spent.came.0 in
      let come = spent.came.2 in
      let last = come.last in
      let least = come.least in
      let most = come.most in
      let few = spent.few in
      let less = of_node spent.node had spent.is spent.came.1 in
      let other = less.0 in
      let kept_in = less.1 in (
        (more (spent.met (omega (arith, last, least, most, other))), subst (IsNearLast g before) (sym spent.named) (kept_in.0, kept_in.1, (had, kept_in.2, omega (arith, last, most, few)))),
        last,
      )

  -- and has stopped since its disk was opened
  spent_so : (h : List BusEntry) (rose : Type 0) (disk : DiskName) (epoch : ℕ) → IsSpent g h d rose disk epoch → HasSpent g h disks disk epoch
  spent_so h rose disk epoch spent =
      let come = spent.came.2 in
      let last = come.last in
      let most = come.most in
      let less = of_node spent.node spent.came.0 spent.is spent.came.1 in
      let other = less.0 in record {
        node = spent.node;
        is = spent.is;
        named = spent.named;
        kept = spent.came.0;
        was = subst (λ (m : DiskName). Mem (record { name = m; kept = EpochIs spent.came.0 }) disks) (sym spent.named) less.2;
        came = come;
        some = omega (arith, last, come.least, most, other);
        few = spent.few;
      }

  -- ---- of a run of the nodes

  late_of : (ran : Option RunLog) (rose faulted : Type 0) → (rose → faulted) → (disk : DiskName) (epoch : ℕ) → IsSomeAnd ran (λ l. IsSpent g l.air.history d rose disk epoch) → (faulted × IsNearLast g before disk) × (epoch ≡ 4294967294)
  late_of None rose faulted more disk epoch spent = absurd spent
  late_of (Some log) rose faulted more disk epoch spent = late log.air.history rose faulted more disk epoch spent

  -- its fault has the cause that is told
  pub cause_so : (ran : Option RunLog) (read faulted rose : Type 0) → (rose → faulted) → (f : RunFault) → IsCounted read faulted f → IsOfRun g d rose ran f → IsCauseOf g before read faulted f
  cause_so ran read faulted rose more (fault.Read log) counted of = counted
  cause_so ran read faulted rose more (fault.Store at) counted of = counted
  cause_so ran read faulted rose more (fault.Limit disk value) counted of = inr (late_of ran rose faulted more disk value of)
  cause_so ran read faulted rose more fault.Memory counted of = tt
  cause_so ran read faulted rose more _ counted of = absurd of

  -- and it names what failed by the history
  pub named_so : (ran : Option RunLog) (rose : Type 0) → IfSome ran (λ l. l.opened ≡ disks) → (f : RunFault) → IsOfRun g d rose ran f → IfSome ran (λ l. NamesFailed g l.air.history l.opened f)
  named_so None rose opened f of = tt
  named_so (Some l) rose opened (fault.Limit disk value) of = subst (λ (ks : List KeptDisk). HasSpent g l.air.history ks disk value) (sym opened) (spent_so l.air.history rose disk value of)
  named_so (Some l) rose opened (fault.Read log) of = of
  named_so (Some l) rose opened (fault.Store at) of = of
  named_so (Some l) rose opened _ of = tt

-- it is none for which a sound store would be refused
pub welcome_so : (g : Setting) (d : Disks) (rose holds : Type 0) (ran : Option RunLog) (f : RunFault) → IsOfRun g d rose ran f → IsWelcome holds f
welcome_so g d rose holds ran f of = grind arith

-- ---- of logs that aren't opened, and a store that isn't placed

pub place_cause : (g : Setting) (before : Images) (read faulted : Type 0) (f : StoreFault) → (f ≡ store.Disk → faulted) → IsCauseOf g before read faulted (of_place f)
place_cause g before read faulted store.Disk rose = rose refl
place_cause g before read faulted store.Memory rose = tt

-- ---- what isn't opened or placed names no node

pub refusal_unnamed : (tells : Bool) (before : Images) (replicas : ℕ) (rose : Type 0) (log_tells : Bool) (log : List ℕ) (end_ : ℕ) (read : Type 0) (asked : Option Topology) (f : RunFault) (n : ℕ) → IsCause tells before replicas rose log_tells log end_ read asked f → f ≡ fault.Store (place.Node n) → ⊥
refusal_unnamed tells before replicas rose log_tells log end_ read asked f n cause is = subst (IsCause tells before replicas rose log_tells log end_ read asked) is cause

pub place_unnamed : (f : StoreFault) (n : ℕ) → of_place f ≡ fault.Store (place.Node n) → ⊥
place_unnamed store.Disk n is = absurd (cc is)
place_unnamed store.Memory n is = absurd (cc is)

-- nor a place of the store where nothing failed
pub place_spared : (f : StoreFault) → (f ≡ store.Disk → ⊥) → (at : StorePlace) → of_place f ≢ fault.Store at
place_spared store.Disk never at is = absurd (never refl)
place_spared store.Memory never at is = absurd (cc is)

-- ---- from a store that was placed to the one before

module _ (g : Setting) (before placed : Images) (within : (disk : DiskName) (c : List ℕ) → placed disk c → before disk c) where
  pub passed_within : HasPassed g placed → HasPassed g before
  passed_within = passed_more true g.config.replicas (Some (asked_of g)) placed before within (TellsPlaces g) (TellsPlaces g) (λ disks m told. told)

  late_within : (faulted rose : Type 0) → (rose → faulted) → (f : RunFault) → IsLate g placed rose f → IsLate g before faulted f
  late_within faulted rose more (fault.Limit disk value) (met, (c, here, near)) = (more met, (c, within disk c here, near))
  late_within faulted rose more _ late = absurd late

  pub cause_within : (files read faulted rose : Type 0) → (files → read) → (rose → faulted) → (f : RunFault) → IsCauseOf g placed files rose f → IsCauseOf g before read faulted f
  cause_within files read faulted rose earlier more f = grind (arith, cause_more, late_within)

-- ---- what is kept of a disk that is opened is a journal of its kind

module _ (before : Images) where
  -- what is left of the disk of a name may be such
  abbrev Was : DiskName → Type 0
  Was name = IsKeptIn (before name) (IsJournalOf name)

pub kept_are_journals : (g : Setting) (before : Images) → KeptAreJournals g before
kept_are_journals g before k disk are taken =
    let topology = are.topology refl in
    ⊎_elim
    (λ is. subst (Was before) is (topology.0, topology.1, (k.topology, topology.2)))
    (λ among. was_journal before k.disks disk are.kinds (are.kept refl) (subst (λ (l : List DiskName). Mem disk l) (sym are.named) among))
    (taken k.topology topology)
