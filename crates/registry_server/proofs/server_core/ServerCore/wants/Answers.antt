use Rattle.std.proofs.Common.{◌≡◌, ◌&&◌, ◌^◌, ◌-◌, true, is_some, sym, subst, ap, ◌∙◌}
use Rattle.registry_server.proofs.Words.{lt-ltb, shards, first_shard, may_propose, is_below_limit}
use Rattle.registry_server.proofs.server_core.ServerCore.wants.Goals as goal

pub returns-then-self-lt-LAST_SLOT : goal.returns-then-self-lt-LAST_SLOT
returns-then-self-lt-LAST_SLOT c = λ g k l h.
    let low : is_below_limit l.round ≡ true = subst (λ m. is_below_limit m ≡ true) h.round (lt-ltb c.args.self.now.round (2 ^ 48 - 1) c.if-self-lt-LAST_SLOT.true) in
    c.is_some.ensures ∙ ap is_some (c.first.ensures.first g k l h) ∙ (λ j. sym low j && is_some (first_shard (λ s. may_propose g (l.shards s)) 0 (shards g)))
