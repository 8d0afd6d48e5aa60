use Rattle.std.proofs.Common.{arith}
use Rattle.site_store.proofs.Stretches.{floor_kept, floor_risen}
use Rattle.site_store.proofs.places.feeds.floor_behind.Goals as goal

pub returns-then-behind-eq0 : goal.returns-then-behind-eq0
returns-then-behind-eq0 c log least stands h =
    floor_kept c.args.bytes.now log least c.args.at c.args.floor stands h c.behind_last-behind.result c.behind_last-behind.ensures c.if-behind-eq0.true

pub returns : goal.returns
returns c log least stands h =
    floor_risen c.args.bytes.now log least c.args.at c.args.floor stands h c.behind_last-behind.result c.behind_last-behind.ensures (omega (arith, c.if-behind-eq0.false))
