-- Call after call over one store.
use Rattle.std.specs.Prelude.{◌≡◌, ◌≢◌, ◌⊎◌, ℕ, List, [], ◌∷◌, Bool, IsTrue, Option, ⊤}
use Rattle.photon_cli.specs.Terms.{Bytes, Disks, HoldsRecords, Images, IsChoice, IsOutputOnce, Setting, ShardRow, Wish, a_join, a_resharding, opening}
use Rattle.photon_model.specs.Adding.{with_row}
use Rattle.photon_model.specs.Stores.{IsLonger}
use Rattle.site_run.specs.Over.{Keeps}
use Rattle.photon_cli.specs.Join.{IsAsked}
use Rattle.photon_cli.specs.Reshard.{IsRowOf}
use Rattle.photon_cli.specs.declared.engine.run.TheConstants.{REPLICAS}

-- the second setting is the first, or one over the logs with more bytes at their ends
abbrev pub IsLater : Setting → Setting → Type 0
IsLater g h = (g ≡ h) ⊎ ((query_log click_log more_queries more_clicks : List ℕ) × IsLonger g h query_log click_log more_queries more_clicks)

-- it is the first one with a row more
abbrev pub IsWider : Setting → Setting → Type 0
IsWider g h = (row : ShardRow) × (h ≡ with_row g row)

-- a call: the setting that it was for, and the store as it was left, by the call's end or by whatever stopped it
pub record Call (S : Type 0) : Type 0 where
  pub setting : Setting
  pub left : S

module _ {S : Type 0} (image : S → Images) where
  -- calls one after another, each over what the one before left: for the setting before or a later one, or one that adds a row
  abbrev pub AreCalls : Setting → S → List (Call S) → Type 0
  AreCalls g s [] = ⊤
  AreCalls g s (c ∷ cs) =
      ((IsLater g c.setting × Keeps c.setting c.setting (image s) (image c.left)) ⊎ (IsWider g c.setting × Keeps g c.setting (image s) (image c.left))) × AreCalls c.setting c.left cs

  abbrev pub setting_after : Setting → List (Call S) → Setting
  setting_after g [] = g
  setting_after g (c ∷ cs) = setting_after c.setting cs

  abbrev pub store_after : S → List (Call S) → S
  store_after s [] = s
  store_after s (c ∷ cs) = store_after c.left cs

-- What a call that ends with this status keeps of the store, by what was asked for: a join for the setting that it asks for, and the others
-- for any; a resharding that added its row for the setting with the row. Where the topology's disk failed, either may be.
module _ (logs : Bool) (told : List ℕ → Option (List ℕ)) (before after : Images) (status : ℕ) where
  abbrev pub KeepsBy : Wish → Type 0
  KeepsBy (a_join v state) = IsTrue logs → (g : Setting) → IsAsked told v g → Keeps g g before after
  KeepsBy (a_resharding state text) =
      ((row : ShardRow) → IsRowOf text row → (status ≡ 0) ⊎ (status ≡ 5) → (g : Setting) → g.config.replicas ≡ REPLICAS → Keeps g (with_row g row) before after)
      × (status ≢ 0 → status ≢ 5 → status ≢ 6 → (g : Setting) → Keeps g g before after)
  KeepsBy _ = (g : Setting) → Keeps g g before after

-- whatever a stop now leaves of the disks, no click stands twice in all their output logs
abbrev pub AreOutputOnce : Setting → Images → Type 0
AreOutputOnce g image = (b : Bytes) → IsChoice g image b → (d : Disks) → HoldsRecords g b d → IsOutputOnce g (opening d)
