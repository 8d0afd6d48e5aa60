-- A note: that it has a spelling has one proof, which note is spelled so, and how long it is.
use Rattle.std.proofs.Common.{rules, ◌≡◌, ◌≤◌, ℕ, ◌+◌, List, [], ◌∷◌, ◌++◌, length, sym, ap, ◌∙◌, arith}
use Rattle.std.proofs.Props.{props}
use mathlib.Core.HLevel.{Σ_prop_path}
use Rattle.std.specs.Coded.{Unit-prop, ×_prop, Π_prop, →_prop}
use Rattle.std.specs.Prelude.{All}
use Rattle.ballot_core.specs.declared.Ballot.{Ballot}
use Rattle.list_words.specs.Lists.{Each}
use Rattle.packet_codec.proofs.NoteParts.{note_apart, note_room}
use Rattle.packet_codec.specs.Notes.{IsNote, note}
use Rattle.paxos_acceptor.specs.Cells.{place_of}
use Rattle.paxos_acceptor.specs.declared.notes.ReplicaNote.{ReplicaNote}
use Rattle.paxos_acceptor.specs.declared.notes.ReplicaNote.TheVariants.{Accepted, Promised}
use Rattle.registry_state.specs.declared.Batch.{Batch}
use Rattle.registry_state.specs.declared.Insert.{Insert}
use Rattle.turn_defs.specs.Spellings.{ballot, batch, place, IsInsert}

-- ---- that a note has a spelling has one proof

each_once : (xs : List Insert) → IsProp (Each IsInsert xs)
each_once [] = Unit-prop
each_once (x ∷ xs) = ×_prop (hlevel props) (each_once xs)

note_once : (n : ReplicaNote) → IsProp (IsNote n)
note_once (Promised shard slot b) = hlevel props
note_once (Accepted shard slot b v) = hlevel (each_once, props)

pub notes_once : (notes : List ReplicaNote) → IsProp (All IsNote notes)
notes_once notes = Π_prop (λ k. Π_prop (λ d. →_prop (note_once _)))

-- ---- which note is spelled so

-- the bytes are this note's
abbrev pub OneNote : List ℕ → Type 0
OneNote bytes = (n : ReplicaNote) × (IsNote n × (bytes ≡ note n))

pub one_note : (bytes : List ℕ) → IsProp (OneNote bytes)
one_note bytes v w = Σ_prop_path {B = λ n. IsNote n × (bytes ≡ note n)} (λ n. ×_prop (note_once n) (hlevel props)) {u = v} {v = w} (note_apart v.0 w.0 [] [] v.1.0 w.1.0 (ap (λ (b : List ℕ). b ++ []) (sym v.1.1 ∙ w.1.1)))

-- ---- its length

head_len : (tag shard slot : ℕ) (b : Ballot) → length (tag ∷ place (place_of shard slot) ++ ballot b) ≡ 23
head_len tag shard slot b = search rules

whole_len : (shard slot : ℕ) (b : Ballot) (v : Batch) → length (note (Accepted shard slot b v)) ≡ 23 + length (batch v)
whole_len shard slot b v = search rules

pub fits : (n : ReplicaNote) → IsNote n → length (note n) ≤ 1952
fits (Promised shard slot b) is = omega (arith, head_len 7 shard slot b)
fits (Accepted shard slot b v) is = omega (arith, whole_len shard slot b v, note_room v is.2.count)
