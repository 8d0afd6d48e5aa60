use Rattle.std.proofs.Common.{◌≡◌, sym, subst}
use Rattle.registry_server.proofs.Words.{EachStands, changed, Change}
use Rattle.registry_server.proofs.server_core.ServerCore.change.Goals as goal

pub returns-in-Tick-clause-kept : goal.returns-in-Tick-clause-kept
returns-in-Tick-clause-kept c = λ g k l h.
    let core = c.args.self.now in
    record {
      config = h.config;
      epoch = h.epoch;
      round = subst (λ (z : Change). core.round ≡ (changed g core.station.site z l).round) (sym c.in-Tick.is) h.round;
      each = subst (λ (z : Change). EachStands c.release_all.new.shards.items (changed g core.station.site z l).shards) (sym c.in-Tick.is) (c.release_all.ensures.each l.shards h.each);
    }
