-- Disks that are taken, used and given back by their plans of stops.
use Rattle.std.proofs.Common.{◌≡◌, ◌≢◌, ℕ, Bool, false, List, [], ◌∷◌, ◌++◌, map, Option, ◌∙◌, refl, subst, arith}
use Rattle.outside.specs.Faults.{added}
use Rattle.outside.specs.Plans.{AtMost, MeetsPlan}
use Rattle.outside.proofs.Plans.{fewer, same_plan}
use Rattle.gate_journal.specs.Fault.{is_of_disk}
use Rattle.site_store.specs.Plans.{Left, HasSoon, IsByPlan, IsAsPlanned, AllAsPlanned, AreAsPlanned}
use Rattle.outside.specs.declared.disk.Disk as disk
use Rattle.outside.specs.declared.store.Store as store
use Rattle.outside.specs.declared.store.DiskName.TheVariants as name
use Rattle.run_fault.specs.declared.fault.RunFault.TheVariants as fault
use Rattle.site_store.proofs.Words.{map-append, Each, each_append, each_more, DiskName, Lent, Lacks, JournalFault, StorePlace, RunFault, KeptValues, Topology, KeptDisk, Misplaced, IsUnfit, IsUnopened, IsUnwritten, told_by}
use Rattle.site_store.proofs.Lending.{each_front, each_back}

-- a disk that met no fault adds none
pub none_added : (old new more : ℕ) → new ≡ added old more → more ≡ 0 → new ≡ old
none_added old new more is none = omega (arith, is, none)

-- the same plan, of which as many calls were made
pub same_left : (k : ℕ) (old new : ℕ → Bool) (from at : ℕ) → ((n : ℕ) → new n ≡ old n) → at ≡ from → AtMost old from k → AtMost new at k
same_left k old new from at same is here = same_plan k at old new same (fewer old k from at (omega (arith, is)) here)

-- ---- why a planned store isn't opened

module _ {S : Type 0} (stops : S → DiskName → ℕ → Bool) (made : S → DiskName → ℕ) (faults : S → ℕ) where
  -- where none is planned no fault was met
  pub calm_by_plan : (old new : S) → ((disk : DiskName) → Left stops made old disk 0) → (f : RunFault) → IsByPlan stops made faults old new f → faults new ≡ faults old
  calm_by_plan old new none f by = grind arith

  disk_told : (old new : S) (at : StorePlace) → IsByPlan stops made faults old new (fault.Store at) → (disk : DiskName) × HasSoon stops made old disk
  disk_told old new at by = grind arith

  -- where none is planned so soon no disk is told
  pub spared : (old new : S) → ((disk : DiskName) → HasSoon stops made old disk → ⊥) → (f : RunFault) → IsByPlan stops made faults old new f → (at : StorePlace) → f ≢ fault.Store at
  spared old new none f by at is = let told = disk_told old new at (subst (IsByPlan stops made faults old new) is by) in none told.0 told.1

  -- one of some disks wasn't opened, whose plans were the same in an earlier store
  pub early_on : (old mid inside new : S) (tells : Bool) (before : DiskName → List ℕ → Type 0) (first last : ℕ) (P : DiskName → Type 0) (f : RunFault) → IsUnopened tells before first last P f
      → ((disk : DiskName) → P disk → ((n : ℕ) → stops mid disk n ≡ stops old disk n) × (made mid disk ≡ made old disk)) → faults mid ≡ faults old → faults new ≡ faults inside
      → IsByPlan stops made faults mid inside f → IsByPlan stops made faults old new f
  early_on old mid inside new tells before first last P f is same still calm by = grind arith

  -- what was opened can't be run or read, and is given back
  pub unfit_early : (old new : S) (asked : Option Topology) (told : List KeptDisk → Option Misplaced → Type 0) (rose : Type 0) (k : KeptValues) (f : RunFault) → IsUnfit asked told rose k f → faults new ≡ faults old
      → IsByPlan stops made faults old new f
  unfit_early old new asked told rose k f why still = grind arith

  -- the topology's record isn't written, whose disk had met no fault
  pub unwritten_early : (old new : S) (fresh met : ℕ) (f : RunFault) → IsUnwritten fresh met f → fresh ≡ 0 → (Left stops made old name.Topology 0 → met ≡ fresh) → (f ≡ fault.Memory → faults new ≡ faults old)
      → IsByPlan stops made faults old new f
  unwritten_early old new fresh met f h zero none still = grind arith

module _ {D : Type 0} (stops : D → ℕ → Bool) (made faults : D → ℕ) where
  -- where no stop is planned a call meets no fault
  pub calm_call : (most : ℕ) (failed : Bool) (old new : D) → MeetsPlan stops made faults most failed old new → AtMost (stops old) (made old) 0 → faults new ≡ faults old
  calm_call most failed old new call none = grind arith

  -- none of them met a fault
  pub each_calm : (left : DiskName → ℕ → Type 0) (lent : List (Lent D)) → AllAsPlanned stops made faults left lent → Each (λ l. faults l.disk ≡ 0) lent
  each_calm left lent all = each_more (λ (l : Lent D). IsAsPlanned stops made faults (left l.name) l.disk) (λ l. faults l.disk ≡ 0) lent (λ l so. so.calm) all

-- the last of some disks is given back, none of which met a fault
pub last_calm : {D X : Type 0} (faults : D → ℕ) (f : X → Lent D) (all rest : List X) (one : X) (old mid new : ℕ) → all ≡ rest ++ one ∷ [] → new ≡ added mid (faults (f one).disk)
    → Each (λ l. faults l.disk ≡ 0) (map f all) × (mid ≡ old) → Each (λ l. faults l.disk ≡ 0) (map f rest) × (new ≡ old)
last_calm {D} faults f all rest one old mid new cut is calm = grind (arith, map-append, each_front, each_back)

-- ---- disks of a store

module _ {D S : Type 0} (d : disk.Ghosts D) (s : store.Ghosts S D) where
  abbrev Taken : (before after : S) → List (Lent D) → Type 0
  Taken = AreAsPlanned d s

  abbrev Planned : S → Lent D → Type 0
  Planned before l = IsAsPlanned d.stops d.made d.faults (Left s.stops s.made before l.name) l.disk

  pub none_taken : (store : S) → Taken store store []
  none_taken store = record { out = tt; others = λ name lacks. ((λ n. refl), refl); still = refl }

  -- one disk
  module _ (before : S) (name : DiskName) (disk : D) (same : (n : ℕ) → d.stops disk n ≡ s.stops before name n) (at : d.made disk ≡ s.made before name) (none : d.faults disk ≡ 0) where
    pub one_taken : (after : S) → ((other : DiskName) → other ≢ name → (n : ℕ) → s.stops after other n ≡ s.stops before other n) → ((other : DiskName) → other ≢ name → s.made after other ≡ s.made before other)
        → s.faults after ≡ s.faults before → Taken before after (record { name = name; disk = disk } ∷ [])
    one_taken after stay stand still = grind arith

    -- it isn't opened
    pub refused_early : (after : S) (f : JournalFault) (back : D) → MeetsPlan d.stops d.made d.faults 3 (is_of_disk f) disk back → (d.faults back ≡ 0 → s.faults after ≡ s.faults before) → IsByPlan s.stops s.made s.faults before after (told_by name f)
    refused_early after f back call still = grind arith

  -- the first of them was used, and met no stop
  pub first_used : (before after : S) (most : ℕ) (x y : Lent D) (lent : List (Lent D)) → y.name ≡ x.name → MeetsPlan d.stops d.made d.faults most false x.disk y.disk → Taken before after (x ∷ lent) → Taken before after (y ∷ lent)
  first_used before after most x y lent named call so = grind arith

  -- the same disk under the same name
  pub taken_as : (before after : S) (x y : Lent D) → x.name ≡ y.name → x.disk ≡ y.disk → Taken before after (x ∷ []) → Taken before after (y ∷ [])
  taken_as before after x y named same so = subst (λ (l : Lent D). Taken before after (l ∷ [])) (λ i. record { name = named i; disk = same i }) so

  moved : (before mid : S) (xs : List (Lent D)) → Taken before mid xs → (ys : List (Lent D)) → Each (λ y. Lacks xs y.name) ys → Each (Planned mid) ys → Each (Planned before) ys
  moved before mid xs so [] apart out = tt
  moved before mid xs so (y ∷ ys) apart out = grind (arith, same_left, moved before mid xs so ys apart.1 out.1)

  -- some disks, and then some others
  pub taken_on : (before mid after : S) (xs ys : List (Lent D)) → Taken before mid xs → Each (λ y. Lacks xs y.name) ys → Taken mid after ys → Taken before after (xs ++ ys)
  taken_on before mid after xs ys first apart next = record {
    out = each_append (Planned before) xs ys first.out (moved before mid xs first ys apart next.out);
    others = λ name lacks. grind (arith, each_front, each_back);
    still = next.still ∙ first.still;
  }
