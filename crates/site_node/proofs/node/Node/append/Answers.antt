use Rattle.std.proofs.Common.{inl}
use Rattle.site_node.proofs.node.Node.append.Goals as goal

pub returns-in-None-clause-moments : goal.returns-in-None-clause-moments
returns-in-None-clause-moments g c tells r k calm holds bytes left = inl ((g.met.R.Records.stays r c.args.self.now.records k tells calm holds).1 bytes left)

pub returns-in-None-clause-grown : goal.returns-in-None-clause-grown
returns-in-None-clause-grown g c tells r k calm holds = (g.met.R.Records.stays r c.args.self.now.records k tells calm holds).2
