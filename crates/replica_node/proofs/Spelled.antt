-- Where the kept notes and the input have spellings, so have the row's note and packets.
use Rattle.std.proofs.Common.{◌≡◌, IfSome, Option, Some, None, arith}
use Rattle.replica_node.proofs.Words.{Each, ReplicaNote, Note, land, ReplicaKept, land_replica, noted, IsNote, IsRowNote, each_push, IsVoted}
use Rattle.paxos_acceptor.specs.declared.notes.ReplicaNote.TheVariants as replica

pub note_ok : (o : Option ReplicaNote) (n : Option Note) → noted o ≡ n → IsRowNote n → IfSome o IsNote
note_ok h n e is = grind arith

-- so has what is kept once the note is written
pub landed_ok : (k : ReplicaKept) (o : Option ReplicaNote) → Each IsVoted k.notes → IfSome o IsNote → Each IsVoted (land land_replica (noted o) k).notes
landed_ok k None all is = all
landed_ok k (Some (replica.Promised s l b)) all is = each_push k.notes _ all is
landed_ok k (Some (replica.Accepted s l b v)) all is = each_push k.notes _ all is
