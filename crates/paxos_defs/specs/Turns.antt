-- The turns of a replica, and which value a proposer sends.
use Rattle.std.specs.Prelude.{Bool, false, if◌then◌else◌, ◌&&◌, Option, Some, None}
use Rattle.ballot_core.specs.declared.Ballot.{Ballot}
use Rattle.ballot_core.specs.Ballots.{is_below, is_same}
use Rattle.paxos_defs.specs.Notes.{Vote, promise, acceptance, Cell}

-- what a Prepare is answered: a promise with what was accepted before, or a refusal with the ballot that was promised
pub data Prepared (V : Type 0) : Type 0 where
  Grant : Option (Ballot × V) → Prepared V
  Refuse : Ballot → Prepared V

-- what an Accept is answered
pub data Taken : Type 0 where
  Take : Taken
  Decline : Ballot → Taken

-- A turn's vote, if any, and its answer.
abbrev pub prepare_under : {V : Type 0} → Cell V → Ballot → Option Ballot → Option (Vote V) × Prepared V
prepare_under c b None = (Some (promise b), Grant c.accepted)
prepare_under c b (Some p) =
    if is_below b p then (None, Refuse p) else if is_same p b then (None, Grant c.accepted) else (Some (promise b), Grant c.accepted)

abbrev pub on_prepare : {V : Type 0} → Cell V → Ballot → Option (Vote V) × Prepared V
on_prepare c b = prepare_under c b c.promised

-- whether just this was accepted last
abbrev pub is_accepted : {V : Type 0} → (V → V → Bool) → Ballot → V → Option (Ballot × V) → Bool
is_accepted same b v None = false
is_accepted same b v (Some x) = is_same x.0 b && same x.1 v

abbrev pub vote_anew : {V : Type 0} → (V → V → Bool) → Cell V → Ballot → V → Option (Vote V) × Taken
vote_anew same c b v = if is_accepted same b v c.accepted then (None, Take) else (Some (acceptance b v), Take)

abbrev pub accept_under : {V : Type 0} → (V → V → Bool) → Cell V → Ballot → V → Option Ballot → Option (Vote V) × Taken
accept_under same c b v None = vote_anew same c b v
accept_under same c b v (Some p) = if is_below b p then (None, Decline p) else vote_anew same c b v

-- same tells whether two values are one
abbrev pub on_accept : {V : Type 0} → (V → V → Bool) → Cell V → Ballot → V → Option (Vote V) × Taken
on_accept same c b v = accept_under same c b v c.promised

-- of two priors the higher one
abbrev pub higher : {V : Type 0} → Option (Ballot × V) → Option (Ballot × V) → Option (Ballot × V)
higher None b = b
higher (Some a) None = Some a
higher (Some a) (Some b) = if is_below a.0 b.0 then Some b else Some a

-- the value that a proposer sends: that of the highest prior, or its own where none came
abbrev pub value_for : {V : Type 0} → V → Option (Ballot × V) → V
value_for own None = own
value_for own (Some a) = a.1
