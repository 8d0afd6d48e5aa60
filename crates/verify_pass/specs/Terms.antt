-- Terms of other crates, for the definitions and contracts of this one.
pub use Rattle.ballot_core.specs.declared.Ballot.{Ballot}
pub use Rattle.event_id.specs.EventId.{id_cmp}
pub use Rattle.event_id.specs.declared.id.EventId.{EventId}
pub use Rattle.id_expiry.specs.Timed.{Knows}
pub use Rattle.id_expiry.specs.declared.timed.TimedRegistry.{TimedRegistry}
pub use Rattle.list_words.specs.Lists.{Each}
pub use Rattle.log_records.specs.declared.records.ClickRec.{ClickRec}
pub use Rattle.log_records.specs.declared.report.ReportLine.{ReportLine}
pub use Rattle.log_records.specs.declared.report.ReportLine.TheVariants.{J, M, U, X}
pub use Rattle.paxos_acceptor.specs.Cells.{note_view, place_of}
pub use Rattle.paxos_acceptor.specs.declared.notes.ReplicaNote.{ReplicaNote}
pub use Rattle.paxos_defs.specs.Notes.{Note, is_place, votes_at}
pub use Rattle.paxos_defs.specs.declared.Place.{Place}
pub use Rattle.registry_state.specs.LookBack.{bound_of, first_in, first_insert, holder}
pub use Rattle.registry_state.specs.Same.{same_batch}
pub use Rattle.registry_state.specs.declared.Batch.{Batch}
pub use Rattle.time_shards.specs.Shards.{shard_count, shard_of}
pub use Rattle.time_shards.specs.declared.ShardRow.{ShardRow}
pub use Rattle.turn_defs.specs.declared.pair.PairRec.{PairRec}
