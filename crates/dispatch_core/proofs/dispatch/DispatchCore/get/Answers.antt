use Rattle.std.proofs.Common.{◌≡◌, ℕ, ◌∙◌, ap, ◌⊎◌, inl, inr}
use Rattle.dispatch_core.proofs.Words.{Token, Outcome, Written, Already, TooOld, Setting, DispatcherKept, DispatcherLive, dispatcher_gets, dispatcher_joined, ends, parks}
use Rattle.dispatch_core.proofs.Rows.{as_out}
use Rattle.dispatch_core.proofs.dispatch.DispatchCore.get.Goals as goal

-- Written, Already and TooOld end the join
ended : (g : Setting) (site : ℕ) (k : DispatcherKept) (l : DispatcherLive) (p : ℕ) (o : Outcome) → (o ≡ Written) ⊎ ((h : Token) × (o ≡ Already h)) ⊎ ((b : ℕ) × (o ≡ TooOld b)) → dispatcher_joined g site k l p o ≡ ends g site k l p
ended g site k l p o (inl e) = ap (dispatcher_joined g site k l p) e
ended g site k l p o (inr (inl h)) = ap (dispatcher_joined g site k l p) h.1
ended g site k l p o (inr (inr h)) = ap (dispatcher_joined g site k l p) h.1

pub returns-in-NoQuery-clause-turn : goal.returns-in-NoQuery-clause-turn
returns-in-NoQuery-clause-turn c = λ g k l s.
    let core = c.args.self.now in
    let p = c.in-Joined.position in
    as_out g core k l c.park.result (parks g core.dealer.site k l p) (dispatcher_gets g core.dealer.site k l c.args.packet.now) (ap (dispatcher_gets g core.dealer.site k l) c.in-Joined.is ∙ ap (λ (o : Outcome). dispatcher_joined g core.dealer.site k l p o) c.in-NoQuery.is) (c.park.ensures.turn g k l s)

pub returns-in-Written-clause-turn : goal.returns-in-Written-clause-turn
returns-in-Written-clause-turn c = λ g k l s.
    let core = c.args.self.now in
    let p = c.in-Joined.position in
    as_out g core k l c.end_join.result (ends g core.dealer.site k l p) (dispatcher_gets g core.dealer.site k l c.args.packet.now) (ap (dispatcher_gets g core.dealer.site k l) c.in-Joined.is ∙ ended g core.dealer.site k l p c.in-Joined.outcome c.in-Written.is) (c.end_join.ensures.turn g k l s)
