use Rattle.registry_server.proofs.Standing.{turn_at}
use Rattle.registry_server.proofs.server_core.ServerCore.decide.Goals as goal

pub returns-in-Start-clause-turn : goal.returns-in-Start-clause-turn
returns-in-Start-clause-turn c = λ g k l h. turn_at g c.args.self.now.station.site k l c.start.result _ _ c.in-Start.is (c.start.ensures.row g k l h)
