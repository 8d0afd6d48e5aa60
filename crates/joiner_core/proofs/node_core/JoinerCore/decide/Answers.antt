use Rattle.std.proofs.Common.{subst}
use Rattle.joiner_core.specs.declared.input.JoinerInput.{JoinerInput}
use Rattle.joiner_core.proofs.Words.{IsReady, Carries}
use Rattle.joiner_core.proofs.Answering.{by_input, if_ok, sends_again}
use Rattle.joiner_core.proofs.node_core.JoinerCore.decide.Goals as goal

pub returns-in-Tick-clause-turn : goal.returns-in-Tick-clause-turn
returns-in-Tick-clause-turn c = if_ok c.send_again.result _ _ (λ t d g n k l i ready carries.
    let core = c.args.self.now in
    let stands = subst (λ (x : JoinerInput). IsReady core g n k l x) c.in-Tick.is ready in
    let tick = subst (λ (x : JoinerInput). Carries g k l x i) c.in-Tick.is carries in
    by_input g n k l i _ tick (sends_again core g n k l stands t d)) c.send_again.ensures.does

pub returns-in-Packet-clause-turn : goal.returns-in-Packet-clause-turn
returns-in-Packet-clause-turn c = if_ok c.receive.result _ _ (λ t d g n k l i ready carries.
    let core = c.args.self.now in
    let stands = subst (λ (x : JoinerInput). IsReady core g n k l x) c.in-Packet.is ready in
    let got = subst (λ (x : JoinerInput). Carries g k l x i) c.in-Packet.is carries in
    by_input g n k l i _ got.0 (d g n k l stands got.1)) c.receive.ensures.turn
