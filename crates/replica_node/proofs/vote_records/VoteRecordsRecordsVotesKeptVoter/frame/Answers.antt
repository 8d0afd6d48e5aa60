use Rattle.std.proofs.Common.{refl, ◌∙◌, arith}
use Rattle.replica_node.proofs.Words.{same_calm, still_calm}
use Rattle.replica_node.proofs.Standing.{short_record, only_note}
use Rattle.replica_node.proofs.vote_records.VoteRecordsRecordsVotesKeptVoter.frame.Goals as goal

pub overflow_cast-len : goal.overflow_cast-len
overflow_cast-len g c = let short = short_record _ c.args.note.now c.requires.spelled (c.as_slice.ensures ∙ c.in_ok-bytes.ensures) in omega (arith, short)

pub make_room-requires : goal.make_room-requires
make_room-requires g c = let short = short_record _ c.args.note.now c.requires.spelled (c.as_slice.ensures ∙ c.in_ok-bytes.ensures) in omega (arith, short)

pub returns-clause-note : goal.returns-clause-note
returns-clause-note g c = only_note _ c.result-1.given.0 c.args.note.now c.requires.spelled c.in_ok-bytes.ensures

pub returns-in_err-bytes-clause-calm : goal.returns-in_err-bytes-clause-calm
returns-in_err-bytes-clause-calm g c tells = still_calm c.args.self.now tells (λ bytes. g.met.D.Disk.starts c.args.self.now.journal.disk bytes tells)

pub returns-in_err-make_room-clause-calm : goal.returns-in_err-make_room-clause-calm
returns-in_err-make_room-clause-calm g c tells = let e = c.make_room.ensures in same_calm c.args.self.now _ tells refl e.state (e.seen tells) (e.image tells)

pub returns-clause-calm : goal.returns-clause-calm
returns-clause-calm g c tells = let e = c.make_room.ensures in same_calm c.args.self.now _ tells refl e.state (e.seen tells) (e.image tells)
