-- A replica's records: notes, one behind the other.
use Rattle.std.specs.Prelude.{ℕ, List}
use Rattle.gate_journal.specs.Gate.{gate_rule}
use Rattle.gate_journal.specs.Records.{Read}
use Rattle.gate_journal.specs.Spelled as spelled
use Rattle.packet_codec.specs.Notes.{IsNote, note}
use Rattle.paxos_acceptor.specs.declared.notes.ReplicaNote.{ReplicaNote}

-- no note is spelled so
abbrev pub IsNoVote : List ℕ → Type 0
IsNoVote = spelled.IsOther IsNote note

-- what is read is the records of these notes, in order
abbrev pub spells : List ReplicaNote → Read → Type 0
spells = spelled.spells IsNote note

-- it is damaged at a place by its gates, or else at that of the first record that is no note's
abbrev pub is_damaged_at : Read → ℕ → Type 0
is_damaged_at = spelled.is_damaged_at IsNote note

abbrev pub IsDamagedAt : List ℕ → ℕ → Type 0
IsDamagedAt bytes at = is_damaged_at (gate_rule bytes) at
