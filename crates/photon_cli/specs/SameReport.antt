-- A verification before a resharding, and one after it.
use Rattle.std.specs.Prelude.{◌≡◌, ◌⊎◌, ℕ, List, ◌++◌, Bool, Option}
use Rattle.gate_journal.specs.Gate.{gate_rule}
use Rattle.photon_cli.specs.Terms.{Bytes, DiskName, Images, IsChoice, IsDisk, Rose, Setting, Text}
use Rattle.photon_cli.specs.Ends.{VerifyEnds}
use Rattle.photon_cli.specs.Reshard.{ReshardEnds}

-- a stop now may leave these bytes of each disk of the setting, and whatever it leaves stands for what they stand for
pub record LeavesOnly (g : Setting) (image : Images) (b : Bytes) : Type 0 where
  pub some : IsChoice g image b
  pub only : (disk : DiskName) → IsDisk g disk → (c : List ℕ) → image disk c → gate_rule c ≡ gate_rule (b disk)

-- a call that ended: what it was given, what it left, and its status
pub record Ended (F S K : Type 0) : Type 0 where
  pub files : F
  pub files_left : F
  pub store : S
  pub store_left : S
  pub out : K
  pub out_left : K
  pub err : K
  pub err_left : K
  pub status : ℕ

module _ {F S K : Type 0} (logs sinks disks : Bool) (told : F → Text → Option (List ℕ)) (files : F → ℕ) (held : K → List ℕ) (written : K → ℕ) (image : S → Images) (faults : S → ℕ) where
  abbrev pub Verified : Ended F S K → Text → Type 0
  Verified e clicks =
      VerifyEnds logs sinks (told e.files) (Rose (files e.files) (files e.files_left)) (Rose (written e.out) (written e.out_left)) (Rose (written e.err) (written e.err_left)) (held e.out) (held e.out_left) (held e.err) (held e.err_left) e.status
      clicks (e.store_left ≡ e.store) disks (image e.store) (image e.store_left) (Rose (faults e.store) (faults e.store_left))

  abbrev pub Resharded : Ended F S K → Text → Type 0
  Resharded e row =
      ReshardEnds sinks (Rose (written e.out) (written e.out_left)) (Rose (written e.err) (written e.err_left)) (held e.out) (held e.out_left) (held e.err) (held e.err_left) e.status
      row (e.store_left ≡ e.store) disks (image e.store) (image e.store_left) (Rose (faults e.store) (faults e.store_left))

  -- a verification over a click log, a resharding of what it left, and a verification over the same log of what that left
  pub record AreInTurn (clicks row : Text) (first between last : Ended F S K) : Type 0 where
    pub before : Verified first clicks
    pub added : Resharded between row
    pub after : Verified last clicks
    pub from : between.store ≡ first.store_left
    pub on : last.store ≡ between.store_left
    pub same_log : told last.files clicks ≡ told first.files clicks

-- a verification wrote its report whole
abbrev pub HasReported : {F S K : Type 0} → Ended F S K → Type 0
HasReported e = (e.status ≡ 0) ⊎ (e.status ≡ 1)

-- two calls ended with one status, and wrote the same bytes behind what was there
pub record SameReport {F S K : Type 0} (held : K → List ℕ) (first last : Ended F S K) : Type 0 where
  pub status : first.status ≡ last.status
  pub text : List ℕ
  pub before : held first.out_left ≡ held first.out ++ text
  pub after : held last.out_left ≡ held last.out ++ text
