use Rattle.std.proofs.Common.{ℕ, ◌<◌, ◌≤◌, ◌^◌, refl, sym, subst, rules}
use Rattle.registry_server.proofs.Words.{Setting, worked}
use Rattle.registry_server.proofs.Spelling.{nothing_ok}
use Rattle.registry_server.proofs.registrar.Registrar.new.Goals as goal

pub invariant_of-result : goal.invariant_of-result
invariant_of-result c =
    let config = c.args.station.config in
    let g : Setting = record worked { config = config } in
    let e = c.in_ok-core.ensures in
    let horizon : config.horizon < 2 ^ 64 = search rules in
    record {
      setting = g;
      kept = _;
      live = _;
      stands = e.stands g refl;
      plan =
          record {
            site = subst (λ (n : ℕ). n < 2) (sym e.site) c.requires;
            horizon = horizon;
            batch = c.args.station.few;
            shards = subst (λ (n : ℕ). n ≤ 16) c.shards-count.ensures.count c.shards-count.ensures.few;
          };
      spelled = nothing_ok _ c.args.held.limit;
    }

pub returns : goal.returns
returns c = λ g new. record { site = c.in_ok-core.ensures.site; stands = c.in_ok-core.ensures.stands g new }
