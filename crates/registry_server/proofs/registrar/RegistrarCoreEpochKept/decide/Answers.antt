use Rattle.std.proofs.Common.{rules, sym, subst}
use Rattle.registry_server.proofs.Words.{ServerCore, Knows}
use Rattle.registry_server.proofs.Registering.{IsFit, still_spelled, still_knows, turned, fit}
use Rattle.registry_server.proofs.registrar.RegistrarCoreEpochKept.decide.Goals as goal
use Rattle.registry_server.proofs.registrar.RegistrarCoreEpochKept.decide.Goals.{Joined-input-5}

pub invariant_of-self : goal.invariant_of-self
invariant_of-self c = still_spelled _ _ c.decide.ensures.same c.decide.ensures.station c.self.invariant

pub returns-in_err-turn-clause-same : goal.returns-in_err-turn-clause-same
returns-in_err-turn-clause-same c = λ tells g k live knows. still_knows _ _ c.decide.ensures.same c.decide.ensures.station g k live (subst (λ (v : ServerCore). Knows v g k live) (sym c.self.view_is) knows)

pub invariant_of-self-2 : goal.invariant_of-self-2
invariant_of-self-2 c = still_spelled _ _ c.decide.ensures.same c.decide.ensures.station c.self.invariant

pub returns-clause-same : goal.returns-clause-same
returns-clause-same c = λ tells g k live knows. still_knows _ _ c.decide.ensures.same c.decide.ensures.station g k live (subst (λ (v : ServerCore). Knows v g k live) (sym c.self.view_is) knows)

fits : (c : Joined-input-5) → IsFit c.self.inside.core c.decide.new.self c.in_ok-turn.turn
fits c = let e = c.in_ok-turn.ensures in fit _ _ e.same e.station c.args.input c.in_ok-turn.turn e.turn c.self.invariant c.requires (search rules)

pub returns-clause-turn : goal.returns-clause-turn
returns-clause-turn c = λ tells g k live knows may.
    let e = c.in_ok-turn.ensures in
    turned _ _ e.same e.station c.args.input c.in_ok-turn.turn e.turn g k live (fits c).taken (subst (λ (v : ServerCore). Knows v g k live) (sym c.self.view_is) knows) may

pub returns-clause-packets : goal.returns-clause-packets
returns-clause-packets c = (fits c).packets

pub returns-clause-can_keep : goal.returns-clause-can_keep
returns-clause-can_keep c = record { fits = c.in_ok-turn.ensures.decided.fits; spelled = (fits c).spelled }
