-- A journal of its kind isn't damaged.
use Rattle.std.proofs.Common.{ℕ, List, arith}
use Rattle.gate_journal.specs.Spelled.{never_damaged}
use Rattle.site_store.proofs.Words.{DiskName, note, IsNote, gate_rule, IsPair, damaged_by, IsJournalOf}
use Rattle.outside.specs.declared.store.DiskName.TheVariants as name
use Rattle.output_log.specs.Pairs.{record_of}

-- no bytes are both a journal of the disk's kind and damaged
pub undamaged : (disk : DiskName) (c : List ℕ) (at : ℕ) → IsJournalOf disk c → damaged_by disk c at → ⊥
undamaged (name.Replica r) c at j damaged = never_damaged IsNote note j.0 (gate_rule c) at j.1 damaged
undamaged (name.Output s i) c at j damaged = never_damaged IsPair record_of j.0 (gate_rule c) at j.1 damaged
undamaged _ c at j damaged = grind arith
