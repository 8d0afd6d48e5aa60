-- What call after call keeps of a store.
use Rattle.std.proofs.Common.{ℕ, List, [], ◌∷◌, Bool, IsTrue, Option, inl, inr, ⊎_elim, sym, subst}
use Rattle.photon_cli.proofs.Words.{DiskName, GoesOn, Setting, Checked, AfterEveryRun, IsOutputOnce, ReadIsChecked, HoldSameRecords, LongerStaysSound, SameIsSound, Images, IsSoundStore, goes_on_through, goes_on_within, RunLog, Wish, a_bulk_run, a_drill, a_join, a_resharding, a_verification, Ends, KeepsOver, stays_goes_on, AreCalls, AreOutputOnce, Call, IsLater, KeepsBy, setting_after, store_after}

-- what a call keeps, by how it ends
module _ (logs sinks disks : Bool) (tells : IsTrue disks) (told : List ℕ → Option (List ℕ)) (files output errors faulted : Type 0) (before after : Images) (same unrun : Type 0) (ran : Option RunLog) (old new err_old err_new : List ℕ) (status : ℕ)
    (stays : same → (g : Setting) → KeepsOver g g before after) where
  pub kept_by : (w : Wish) → Ends logs sinks disks told files output errors faulted before after same unrun ran old new err_old err_new status w → KeepsBy logs told before after status w
  kept_by (a_join v state) ends = λ log_tells g asked. ends.keeps tells log_tells g asked
  kept_by (a_drill v plan) ends = stays ends.1
  kept_by (a_verification clicks state) ends = λ g. record { sound = ends.0.sound tells g; grown = λ disk. stays_goes_on _ _ (ends.0.stays tells disk) }
  kept_by (a_bulk_run v) ends = stays ends.1
  kept_by (a_resharding state text) ends =
      let left = ends.0.left tells in (
        λ row is ended g replicas. record { sound = left.longer ended row is g replicas; grown = left.grown },
        λ zero five six g. record { sound = left.still (zero, five, six) g; grown = left.grown },
      )

module _ {S : Type 0} (image : S → Images) where
  -- the store stays sound from call to call
  pub sound_after : ((s : S) → LongerStaysSound (image s)) → (g : Setting) (s : S) (calls : List (Call S)) → IsSoundStore g (image s) → AreCalls image g s calls → IsSoundStore (setting_after image g calls) (image (store_after image s calls))
  sound_after longer g s [] sound are = sound
  sound_after longer g s (c ∷ cs) sound are = sound_after longer c.setting c.left cs (⊎_elim (λ more. more.1.sound (later more.0)) (λ row. row.1.sound sound) are.0) are.1
    where
      later : IsLater g c.setting → IsSoundStore c.setting (image s)
      later (inl same) = subst (λ h. IsSoundStore h (image s)) same sound
      later (inr l) = longer s g c.setting l.0 l.1 l.2 l.3 l.4 sound

  -- and its logs checked
  pub checked_after : ReadIsChecked → (g : Setting) (s : S) (calls : List (Call S)) → Checked g → AreCalls image g s calls → Checked (setting_after image g calls)
  checked_after checks g s [] checked are = checked
  checked_after checks g s (c ∷ cs) checked are =
      checked_after checks c.setting c.left cs (⊎_elim (λ more. later more.0) (λ row. subst Checked (sym row.0.1) (record { follow = checked.follow; no_conflict = checked.no_conflict })) are.0) are.1
    where
      later : IsLater g c.setting → Checked c.setting
      later (inl same) = subst Checked same checked
      later (inr l) = checks c.setting _ _ l.4.after

  pub grown_after : (g : Setting) (s : S) (calls : List (Call S)) → AreCalls image g s calls → (disk : DiskName) → GoesOn (image s disk) (image (store_after image s calls) disk)
  grown_after g s [] are disk = goes_on_within _ _ (λ c here. here)
  grown_after g s (c ∷ cs) are disk = goes_on_through _ _ _ (⊎_elim (λ more. more.1.grown disk) (λ row. row.1.grown disk) are.0) (grown_after c.setting c.left cs are.1 disk)

-- a sound store outputs each click once
pub output_once : (g : Setting) (image : Images) → HoldSameRecords → SameIsSound → AfterEveryRun IsOutputOnce → Checked g → IsSoundStore g image → AreOutputOnce g image
output_once g image one same once checked sound b choice d holds =
    let kept = sound b choice in
    once g d [] checked (same g kept.0.disks d (one g b kept.0.disks d kept.1.records holds) kept.2.records) tt
