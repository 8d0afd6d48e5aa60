-- What a run leaves, by what its parts do.
use Rattle.std.proofs.Common.{◌≡◌, inl, ℕ, List, [], ◌∷◌, ◌++◌, Option, None, Some, Result, Ok, Err, refl, sym, subst, arith, IfSome, IsSomeAnd, IfOk}
use Rattle.site_run.proofs.Words.{KeptDisk, AreRecordsOf, Each, Mem, mem_left, mem_right, each_at, each_from, each_more, each_append, DiskName, StoreFault, BusEntry, IsQueryLog, Setting, Checked, IsLogOf, Disks, topology_of, Store, WholeSound, ReadIsChecked, RunFault, IsCounted, IsWelcome, of_place, IsKeptIn, Images, AreLeft, IsSoundStore, SameRecords, RunStaysSound, Journals, Outcome, RunLog, Config, AreLogsOf, IsSettingOf, IsSettingOver, HasRun, HasRested, RunLeft, RestLeft}
use Rattle.outside.specs.declared.faults.StoreFault.TheVariants as store

-- ---- where a run began, and where none did

pub run_left : (o : Option RunLog) (g : Setting) (before after : Images) (s : Store) (opened : List KeptDisk) → AreLeft g before s → AreRecordsOf g opened s.disks → IfSome o (λ l. l.opened ≡ opened)
    → ((d : Disks) → SameRecords g s.disks d → IfSome o (λ l. HasRun g d l.air.history after)) → IfSome o (RunLeft g before after)
run_left None g before after s opened kept records same run = tt
run_left (Some l) g before after s opened kept records same run = record { store = s; kept = kept; opened = subst (λ k. AreRecordsOf g k s.disks) (sym same) records; ran = run }

pub rest_left : (r : Result Outcome RunFault) (o : Option RunLog) (g : Setting) (before after : Images) (s : Store) (faulted : Type 0) → AreLeft g before s
    → ((d : Disks) → SameRecords g s.disks d → IfOk r (λ outcome. IsSomeAnd o (λ l. HasRested g d l.air.history after faulted outcome.journals)))
    → IfOk r (λ outcome. IsSomeAnd o (λ l. RestLeft g before after l.air.history faulted outcome.journals))
rest_left (Err f) o g before after s faulted kept run = tt
rest_left (Ok outcome) None g before after s faulted kept run = run s.disks (λ n is. refl)
rest_left (Ok outcome) (Some l) g before after s faulted kept run = record { store = s; kept = kept; ran = run }

-- a run over a sound store leaves a sound one, and so does none
pub run_sound : (o : Option RunLog) (g : Setting) (after : Images) (s : Store) → Checked g → WholeSound g s → s.topology ≡ Some (topology_of g) → RunStaysSound g after
    → (o ≡ None → IsSoundStore g after) → IfSome o (λ l. HasRun g s.disks l.air.history after) → IsSoundStore g after
run_sound None g after s checked whole topology law none run = none refl
run_sound (Some l) g after s checked whole topology law none run = law s l.air.history run.at run.entries checked whole topology run.run run.keeps

pub none_left : (P : RunLog → Type 0) (o : Option RunLog) → o ≡ None → IfSome o P
none_left P o none = subst (λ (x : Option RunLog). IfSome x P) (sym none) tt

-- ---- the log that is read and put back

pub last_of : {A : Type 0} (P : A → Type 0) (items rest : List A) (last : A) → items ≡ rest ++ last ∷ [] → Each P items → P last
last_of P items rest last is all = each_at P items all last (subst (Mem last) (sym is) (mem_right last rest (last ∷ []) (inl refl)))

put_back : {A : Type 0} (P : A → Type 0) (items rest new : List A) (last next : A) → items ≡ rest ++ last ∷ [] → new ≡ rest ++ next ∷ [] → P next → Each P items → Each P new
put_back P items rest new last next is now good all =
    subst (Each P) (sym now) (each_append P rest (next ∷ []) (each_from P rest (λ x among. each_at P items all x (subst (Mem x) (sym is) (mem_left x rest (last ∷ []) among)))) (good, tt))

-- the logs are the setting's still
pub over_back : {L : Type 0} (bytes : L → List ℕ) (config : Config) (g : Setting) (items rest new queries : List L) (last next : L) → items ≡ rest ++ last ∷ [] → new ≡ rest ++ next ∷ [] → IsLogOf (bytes next) g
    → AreLogsOf bytes items queries config g → AreLogsOf bytes new queries config g
over_back {L} bytes config g items rest new queries last next is now good all = grind (arith, put_back)

-- ---- the setting of logs that are open

some_at : {A : Type 0} (P : A → Type 0) (o : Option A) (x : A) → o ≡ Some x → IsSomeAnd o P → P x
some_at {A} P o x is some = subst (λ (y : Option A). IsSomeAnd y P) is some

pub over_so : {L : Type 0} (bytes : L → List ℕ) (told : List ℕ → Option (List ℕ)) (queries clicks : List ℕ) (config : Config) (end_ : ℕ) (g : Setting) (click_logs query_logs : List L)
    → Each (λ (l : L). told clicks ≡ Some (bytes l)) click_logs → Each (λ (l : L). told queries ≡ Some (bytes l)) query_logs
    → IsSettingOf told queries clicks config end_ g → IsSettingOver bytes click_logs query_logs config end_ g
over_so {L} bytes told queries clicks config end_ g click_logs query_logs of_clicks of_queries is = grind (arith, each_more, some_at)

pub checked_so : ReadIsChecked → (g : Setting) (a b : Option (List ℕ)) → IsSomeAnd a (λ log. IsQueryLog log g.queries) → IsSomeAnd b (λ log. IsLogOf log g) → Checked g
checked_so law g None b of_a of_b = absurd of_a
checked_so law g (Some a) None of_a of_b = absurd of_b
checked_so law g (Some a) (Some b) of_a of_b = law g a b (record { queries = of_a.0; clicks = of_b.lines })

-- ---- logs that aren't opened, and a store that isn't placed

pub place_counted : (f : StoreFault) (logs stores : Type 0) → (f ≡ store.Disk → stores) → IsCounted logs stores (of_place f)
place_counted store.Disk logs stores rose = rose refl
place_counted store.Memory logs stores rose = tt

pub place_welcome : (f : StoreFault) (holds : Type 0) → IsWelcome holds (of_place f)
place_welcome store.Disk holds = tt
place_welcome store.Memory holds = tt

-- ---- where the counts were lower, and where less holds

pub counted_more : (f : RunFault) (logs stores logs_too stores_too : Type 0) → (logs → logs_too) → (stores → stores_too) → IsCounted logs stores f → IsCounted logs_too stores_too f
counted_more f logs stores logs_too stores_too more_logs more_stores is = grind arith

pub welcome_where : (f : RunFault) (holds less : Type 0) → (less → holds) → IsWelcome holds f → IsWelcome less f
welcome_where f holds less from is = grind arith

-- ---- from a store that was placed to the one before

kept_in : (before placed keeps : List ℕ → Type 0) → ((c : List ℕ) → placed c → before c) → IsKeptIn placed keeps → IsKeptIn before keeps
kept_in before placed keeps within kept = (kept.0, within kept.0 kept.1, kept.2)

pub left_before : (g : Setting) (before placed : Images) (s : Store) → ((disk : DiskName) (c : List ℕ) → placed disk c → before disk c) → AreLeft g placed s → AreLeft g before s
left_before g before placed s within kept = grind (arith, kept_in)

rested_where : (g : Setting) (d : Disks) (h : List BusEntry) (after : Images) (less more : Type 0) (journals : Journals) → (less → more) → HasRested g d h after less journals → HasRested g d h after more journals
rested_where g d h after less more journals from is = record {
  at = is.at;
  entries = is.entries;
  run = is.run;
  rest = is.rest;
  keeps = is.keeps;
  holds = is.holds;
  read = is.read;
  stops = λ no. is.stops (λ l. no (from l));
}

pub sound_placed : (g : Setting) (before placed : Images) → ((disk : DiskName) (c : List ℕ) → placed disk c → before disk c) → IsSoundStore g before → IsSoundStore g placed
sound_placed g before placed within sound b choice = sound b (λ disk is. within disk (b disk) (choice disk is))

module _ (g : Setting) (before placed after : Images) (within : (disk : DiskName) (c : List ℕ) → placed disk c → before disk c) where
  pub run_earlier : (o : Option RunLog) → IfSome o (RunLeft g placed after) → IfSome o (RunLeft g before after)
  run_earlier None left = tt
  run_earlier (Some l) left = record { store = left.store; kept = left_before g before placed left.store within left.kept; opened = left.opened; ran = left.ran }

  pub rest_earlier : (r : Result Outcome RunFault) (o : Option RunLog) (less more : Type 0) → (less → more)
      → IfOk r (λ outcome. IsSomeAnd o (λ l. RestLeft g placed after l.air.history less outcome.journals)) → IfOk r (λ outcome. IsSomeAnd o (λ l. RestLeft g before after l.air.history more outcome.journals))
  rest_earlier (Err f) o less more from left = tt
  rest_earlier (Ok outcome) None less more from left = absurd left
  rest_earlier (Ok outcome) (Some l) less more from left = record {
    store = left.store;
    kept = left_before g before placed left.store within left.kept;
    ran = λ d same. rested_where g d l.air.history after less more outcome.journals from (left.ran d same);
  }
