use Rattle.std.proofs.Common.{◌≡◌, ◌∷◌, ◌++◌, length}
use Rattle.packet_codec.proofs.Words.{Each, IsInsert, inserts}
use Rattle.packet_codec.proofs.fields.batches.InsertsField.read.Given as goal

abbrev pub invariant-loop : goal.invariant-loop
invariant-loop l = record { so_far : l.bytes ≡ l.count ∷ (inserts l.list ++ l.rest); count : length l.list ≡ l.counter; each : Each IsInsert l.list }
