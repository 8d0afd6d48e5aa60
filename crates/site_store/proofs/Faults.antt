-- Why a journal isn't opened, as the fault of its disk.
use Rattle.std.proofs.Common.{◌≡◌, ◌≤◌, ℕ, List, Bool, IsTrue, arith}
use Rattle.site_store.proofs.Words.{DiskName, Within, added, JournalFault, RunFault, damaged_by, IsRefusedBy, told_by, IsUnopened}

-- a disk that was taken is refused: it was damaged, or its count is among the store's
pub told_unopened : (before : DiskName → List ℕ → Type 0) (name : DiskName) (f : JournalFault) (tells : Bool) (seen : List ℕ) (met n old mid new : ℕ)
    → IsRefusedBy (damaged_by name) tells seen met n f → old ≤ mid → new ≡ added mid n → (IsTrue tells → before name seen) → IsUnopened tells before old new (λ disk. disk ≡ name) (told_by name f)
told_unopened before name f tells seen met n old mid new refused le is left = grind arith

-- a fault of one of some disks, told of more of them and over a longer time
pub unopened_more : (tells : Bool) (before mid : DiskName → List ℕ → Type 0) (old first last new : ℕ) (P Q : DiskName → Type 0) (f : RunFault)
    → old ≤ first → last ≤ new → ((disk : DiskName) → P disk → Q disk) → (IsTrue tells → (disk : DiskName) → P disk → Within (before disk) (mid disk)) → IsUnopened tells mid first last P f → IsUnopened tells before old new Q f
unopened_more tells before mid old first last new P Q f le rest more within h = grind arith
