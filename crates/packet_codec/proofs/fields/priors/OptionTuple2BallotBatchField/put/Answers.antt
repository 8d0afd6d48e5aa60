use Rattle.packet_codec.proofs.fields.priors.OptionTuple2BallotBatchField.put.Goals as goal

pub returns-in-Some-clause-ok : goal.returns-in-Some-clause-ok
returns-in-Some-clause-ok c = rw c.in-Some.is c.put_accepted.ensures.ok
