use Rattle.std.proofs.Common.{◌∙◌, ap, sym, Some}
use Rattle.std.specs.Prelude.{Option}
use Rattle.std.specs.Option.{option_map}
use Rattle.gate_journal.specs.FoldLaws.{comes_next, comes_wrong}
use Rattle.topology_journal.specs.declared.topology.Topology.{Topology}
use Rattle.topology_journal.specs.Topologies.{topologies}
use Rattle.topology_journal.proofs.kept.TopologiesRecord.take.Goals as goal

pub returns-in-Some-clause-next : goal.returns-in-Some-clause-next
returns-in-Some-clause-next c is ps kept =
    comes_next topologies ps c.args.self.now.kept (Some c.in-Some.topology) c.args.payload.now kept
    (ap (λ (o : Option Topology). option_map (λ (t : Topology). Some t) o) (sym c.in_ok-topology.ensures.next ∙ c.in-Some.is))

pub returns-in-None-clause-damage : goal.returns-in-None-clause-damage
returns-in-None-clause-damage c is ps rest kept =
    comes_wrong topologies ps rest c.args.self.now.kept c.args.payload.now kept
    (ap (λ (o : Option Topology). option_map (λ (t : Topology). Some t) o) (sym c.in_ok-topology.ensures.next ∙ c.in-None.is))
