use Rattle.registry_server.proofs.Words.{landed}
use Rattle.registry_server.proofs.server_core.ServerCore.keep.Goals as goal

pub returns-clause-kept : goal.returns-clause-kept
returns-clause-kept c = λ g k l h. c.change.ensures.kept g (landed c.args.turn.note k) l (record { config = h.config; epoch = c.held_after-self.ensures k h.epoch; round = h.round; each = h.each })
