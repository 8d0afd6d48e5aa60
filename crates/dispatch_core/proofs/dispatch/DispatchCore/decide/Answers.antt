use Rattle.std.proofs.Common.{subst, sym, IfOk}
use Rattle.dispatch_core.proofs.Words.{Input, dispatcher_own, dispatcher_gets, Takes, Carries, IsTurn, out_of, Dealer, DispatchInput}
use Rattle.dispatch_core.proofs.Keeping.{alike_stands}
use Rattle.dispatch_core.proofs.dispatch.DispatchCore.decide.Goals as goal

pub returns-in-Own-clause-turn : goal.returns-in-Own-clause-turn
returns-in-Own-clause-turn c = λ g k l i takes carries.
    let old = c.args.self.now in
    let new = c.make_room.new.self in
    let alike = c.in_ok-make_room.ensures.same in
    let stands = subst (λ (x : DispatchInput). Takes g old k l x) c.in-Own.is takes in
    let all = subst (λ (x : DispatchInput). Carries g k l x i) c.in-Own.is carries in
    let turn = c.own.ensures.turn g k l (alike_stands g old new k l alike stands) all.1 in
    subst (λ (j : Input). IfOk c.own.result (λ t. IsTurn g new k l t (out_of g old.dealer.site k l j))) (sym all.0) (subst (λ (d : Dealer). IfOk c.own.result (λ t. IsTurn g new k l t (dispatcher_own g d.site k l))) alike.dealer turn)

pub returns-in-Packet-clause-turn : goal.returns-in-Packet-clause-turn
returns-in-Packet-clause-turn c = λ g k l i takes carries.
    let old = c.args.self.now in
    let new = c.make_room.new.self in
    let alike = c.in_ok-make_room.ensures.same in
    let stands = subst (λ (x : DispatchInput). Takes g old k l x) c.in-Packet.is takes in
    let same = subst (λ (x : DispatchInput). Carries g k l x i) c.in-Packet.is carries in
    let turn = c.get.ensures.turn g k l (alike_stands g old new k l alike stands) in
    subst (λ (j : Input). IsTurn g new k l c.get.result (out_of g old.dealer.site k l j)) (sym same) (subst (λ (d : Dealer). IsTurn g new k l c.get.result (dispatcher_gets g d.site k l c.in-Packet.packet)) alike.dealer turn)
