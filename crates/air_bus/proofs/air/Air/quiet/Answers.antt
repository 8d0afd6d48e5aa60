use Rattle.std.proofs.Common.{◌≡◌, ℕ, ◌<◌, length, get_or, false, sym, ap, ◌∙◌, subst, arith}
use Rattle.air_bus.proofs.Words.{Down, Idle, Inbox, IsQuiet, Keeps, is_dead, received}
use Rattle.air_bus.proofs.air.Air.quiet.Goals as goal

pub returns-then-all_idle : goal.returns-then-all_idle
returns-then-all_idle c =
    let a = c.self.inside in
    let plan = a.links.plan in
    let kinds = a.links.kinds.items in
    let h = a.history in
    let inv = c.self.invariant in
    let idle = subst (λ ps. (n : ℕ) → n < length ps → is_dead plan.dead kinds n ≡ false → get_or ps n Down ≡ Idle) c.deref.ensures.value (c.all_idle.ensures.yes c.if-all_idle.true) in
    let keeps = subst (λ is. (n : ℕ) (d : Inbox) → n < length is → Keeps (length kinds) (get_or is n d) (received plan kinds n h)) (sym c.deref-then-all_idle.ensures.value)
    (λ n d inside. inv.inbox_each n d (omega (arith, inside, inv.many))) in
    let many : length c.deref-then-all_idle.result.now ≡ length kinds = ap length c.deref-then-all_idle.ensures.value ∙ inv.many in
    let both = c.all_empty.ensures (length kinds) (λ n. received plan kinds n h) keeps in (
      λ t. subst IsQuiet c.self.view_is (record {
        idle = λ n inside alive. sym (inv.phase_each n) ∙ idle n (omega (arith, inside, inv.phase_many)) alive;
        empty = λ n inside. both.0 t n (omega (arith, inside, many));
      }),
      λ q. both.1 (λ n inside. (subst IsQuiet (sym c.self.view_is) q).empty n (omega (arith, inside, many))),
    )
