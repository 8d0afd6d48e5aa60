-- Where a replica's kept notes and its input have spellings, so have the row's note and packets, and what it keeps then.
use Rattle.std.proofs.Common.{arith, Bool, List, [], ◌∷◌, ◌++◌, Option, Some, None}
use Rattle.std.specs.Prelude.{All, IfSome, if◌then◌else◌, map, ⊤}
use Rattle.list_words.specs.Lists.{Each}
use Rattle.ballot_core.specs.declared.Ballot.{Ballot}
use Rattle.ballot_core.specs.Ballots.{is_below, is_same}
use Rattle.registry_state.specs.declared.Batch.{Batch}
use Rattle.registry_state.specs.Same.{same_batch}
use Rattle.paxos_defs.specs.declared.Place.{Place}
use Rattle.paxos_defs.specs.Notes.{promise, Cell, blank, cell_from, votes_at}
use Rattle.paxos_defs.specs.Notes.Note.{Promised, Accepted}
use Rattle.paxos_defs.specs.Turns.{on_prepare, on_accept, prepare_under, accept_under, vote_anew}
use Rattle.paxos_defs.specs.Turns.Prepared.{Grant, Refuse}
use Rattle.paxos_acceptor.specs.declared.notes.ReplicaNote.{ReplicaNote}
use Rattle.turn_defs.specs.Spellings.{IsPlace, IsBallot, IsBatch, IsPrior}
use Rattle.turn_defs.specs.declared.packet.Packet.{Packet}
use Rattle.turn_defs.specs.declared.packet.Packet.TheVariants.{Prepare, Accept}
use Rattle.turn_defs.specs.declared.node.Node.{Node}
use Rattle.turn_defs.specs.declared.node.To.{To}
use Rattle.turn_defs.specs.Packets.{IsPacket}
use Rattle.turn_defs.specs.Setting.{Setting}
use Rattle.turn_defs.specs.Turns.{BallotNote, Note, Voted, Out, land, idle}
use Rattle.turn_defs.specs.Replica.{ReplicaKept, cell_at, prepares, accepts, replica_gets, land_replica}
use Rattle.site_node.specs.Replicas.{IsVoted, replica_rows}
use Rattle.std.proofs.lemmas.List.Elements.{All-head, All-tail}
use Rattle.paxos_acceptor.specs.Cells.{note_view}
use Rattle.packet_codec.specs.Notes.{IsNote}
use Rattle.turn_defs.specs.declared.node.Input.{Input}
use Rattle.site_node.specs.Bytes.{IsInput}
use Rattle.site_node.specs.States.{row_of}

view_ok : (n : ReplicaNote) → IsNote n → IsVoted (note_view n)
view_ok h is = grind arith

pub views_ok : (ns : List ReplicaNote) → All IsNote ns → Each IsVoted (map note_view ns)
views_ok [] all = tt
views_ok (n ∷ ns) all = (view_ok n (All-head IsNote n ns all), views_ok ns (All-tail IsNote n ns all))

pub record IsCell (c : Cell Batch) : Type 0 where
  pub promised : IfSome c.promised IsBallot
  pub accepted : IsPrior c.accepted

votes_ok : (at : Place) (notes : List BallotNote) (c : Cell Batch) → IsCell c → Each IsVoted notes → IsCell (cell_from c (votes_at at notes))
votes_ok at [] c cell all = cell
votes_ok at (Promised q b ∷ notes) c cell all = grind (arith, votes_ok at notes)
votes_ok at (Accepted q b v ∷ notes) c cell all = grind (arith, votes_ok at notes)

cell_ok : (k : ReplicaKept) (at : Place) → Each IsVoted k.notes → IsCell (cell_at k at)
cell_ok k at all = votes_ok at k.notes blank (record { promised = tt; accepted = tt }) all

abbrev pub IsRowNote : Option Note → Type 0
IsRowNote None = ⊤
IsRowNote (Some (Voted x)) = IsVoted x
IsRowNote (Some _) = ⊥

pub record IsSpelledOut (out : Out (Unit {0})) : Type 0 where
  pub note : IsRowNote out.note
  pub packets : Each (λ (p : To × Packet). IsPacket p.1) out.packets

module _ (to : Node) (at : Place) (b : Ballot) (c : Cell Batch) (place : IsPlace at) (ballot : IsBallot b) (cell : IsCell c) where
  prepare_one : (p : Ballot) (x y : Bool) → IsBallot p → IsSpelledOut (prepares to at b (if x then (None, Refuse p) else if y then (None, Grant c.accepted) else (Some (promise b), Grant c.accepted)))
  prepare_one p h y is = grind arith

  prepare_by : (o : Option Ballot) → IfSome o IsBallot → IsSpelledOut (prepares to at b (prepare_under c b o))
  prepare_by None is = record { note = (place, ballot); packets = ((place, ballot, cell.accepted), tt) }
  prepare_by (Some p) is = prepare_one p (is_below b p) (is_same p b) is

  prepares_ok : IsSpelledOut (prepares to at b (on_prepare c b))
  prepares_ok = prepare_by c.promised cell.promised

  module _ (v : Batch) (batch : IsBatch v) where
    anew : IsSpelledOut (accepts to at b (vote_anew same_batch c b v))
    anew = grind arith

    accept_by : (o : Option Ballot) → IfSome o IsBallot → IsSpelledOut (accepts to at b (accept_under same_batch c b v o))
    accept_by None is = anew
    accept_by (Some p) is = grind arith

    accepts_ok : IsSpelledOut (accepts to at b (on_accept same_batch c b v))
    accepts_ok = accept_by c.promised cell.promised

idle_ok : IsSpelledOut (idle tt)
idle_ok = record { note = tt; packets = tt }

pub gets_ok : (k : ReplicaKept) (from : Node) (p : Packet) → Each IsVoted k.notes → IsPacket p → IsSpelledOut (replica_gets k from p)
gets_ok k from (Prepare at b) all is = prepares_ok from at b (cell_at k at) is.0 is.1 (cell_ok k at all)
gets_ok k from (Accept at b v) all is = accepts_ok from at b (cell_at k at) is.0 is.1 (cell_ok k at all) v is.2
gets_ok k from _ all is = idle_ok

pub each_push : (xs : List BallotNote) (x : BallotNote) → Each IsVoted xs → IsVoted x → Each IsVoted (xs ++ x ∷ [])
each_push [] x all is = (is, tt)
each_push (y ∷ xs) x all is = (all.0, each_push xs x all.1 is)

pub row_landed_ok : (k : ReplicaKept) (n : Option Note) → Each IsVoted k.notes → IsRowNote n → Each IsVoted (land land_replica n k).notes
row_landed_ok k h all is = grind (arith, each_push)

pub row_ok : (g : Setting) (k : ReplicaKept) (live : Option (Unit {0})) (i : Input) → Each IsVoted k.notes → IsInput i → IsSpelledOut (row_of replica_rows g k live i)
row_ok g k h i all is = grind (arith, gets_ok)
