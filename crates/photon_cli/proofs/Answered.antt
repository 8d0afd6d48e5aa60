-- What a command answers, by what came of it.
use Rattle.std.proofs.Common.{◌≡◌, ◌≢◌, ◌⊎◌, inl, inr, ⊎_elim, ℕ, ◌<◌, ◌≤◌, List, Bool, true, false, IsTrue, refl, arith}
use Rattle.photon_cli.proofs.Words.{Counts, IsAnswered, IsFailedRead, RunFault, WordsFault, status_of, words_status}
use mir.Val.{bool_byte}
use Rattle.run_fault.specs.declared.fault.RunFault.TheVariants as fault
use Rattle.command_words.specs.declared.asked.WordsFault.TheVariants as words_fault
use Rattle.photon_cli.proofs.Statuses.{failed_of, write_of}

module _ (sinks : Bool) (files_old files_new out_old out_new : ℕ) (old new : List ℕ) (status : ℕ) where
  pub ended : (status ≡ 0) ⊎ (status ≡ 1) → files_old ≤ files_new → out_old ≤ out_new → IsAnswered sinks files_old files_new out_old out_new old new status
  ended h files out = grind arith

  pub given_up : (f : RunFault) (failed : Type 0) → status ≡ status_of f → Counts files_old files_new (IsFailedRead f) → (f ≡ fault.Write → failed) → Counts out_old out_new failed → (IsTrue sinks → (f ≡ fault.Write) ⊎ (new ≡ old))
      → IsAnswered sinks files_old files_new out_old out_new old new status
  given_up f failed is read told write quiet = grind (arith, failed_of, write_of)

-- of a command that reads no file
pub answered : (sinks : Bool) (out_old out_new : ℕ) (old new : List ℕ) (status : ℕ) (f : RunFault) (failed : Type 0) → status ≡ status_of f → status ≢ 4 → (f ≡ fault.Write → failed) → Counts out_old out_new failed → (IsTrue sinks → (f ≡ fault.Write) ⊎ (new ≡ old))
    → IsAnswered sinks 0 0 out_old out_new old new status
answered sinks out_old out_new old new status f failed is other told write quiet = grind (arith, write_of)

-- words that aren't read
pub unread : (sinks : Bool) (files out : ℕ) (held : List ℕ) (status : ℕ) (f : WordsFault) → status ≡ words_status f → IsAnswered sinks files files out out held held status
unread sinks files out held status (words_fault.Refused error) is = record {
  statuses = inr (inr (fault.Table 0, is));
  read = record { later = omega arith; rose = λ four. absurd (omega (arith, is, four)) };
  write = record { later = omega arith; rose = λ five. absurd (omega (arith, is, five)) };
  quiet = λ tells zero one five. refl;
}
unread sinks files out held status words_fault.Memory is = record {
  statuses = inr (inr (fault.Memory, is));
  read = record { later = omega arith; rose = λ four. absurd (omega (arith, is, four)) };
  write = record { later = omega arith; rose = λ five. absurd (omega (arith, is, five)) };
  quiet = λ tells zero one five. refl;
}

-- ---- of a verification, whose status is whether a line is of a missing click

pub zero_or_one : (missing : Bool) → (bool_byte missing ≡ 0) ⊎ (bool_byte missing ≡ 1)
zero_or_one true = inr refl
zero_or_one false = inl refl

pub no_more : (missing : Bool) (n : ℕ) → 1 < n → bool_byte missing ≢ n
no_more missing n more is = ⊎_elim (λ zero. omega (arith, zero, more, is)) (λ one. omega (arith, one, more, is)) (zero_or_one missing)

pub verified : (missing : Bool) (P : Type 0) → (bool_byte missing ≡ 0) ⊎ ((bool_byte missing ≡ 1) ⊎ P)
verified missing P = ⊎_elim inl (λ one. inr (inl one)) (zero_or_one missing)

pub printed : (missing is : Bool) (P : Bool → Type 0) → bool_byte missing ≡ bool_byte is → P missing → P is
printed true true P same p = p
printed false false P same p = p
printed true false P same p = absurd (omega (arith, same))
printed false true P same p = absurd (omega (arith, same))
