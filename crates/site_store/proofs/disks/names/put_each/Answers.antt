use Rattle.std.proofs.Common.{arith}
use Rattle.site_store.proofs.Names.{value_more}
use Rattle.site_store.proofs.disks.names.put_each.Goals as goal

pub loop-number-preserved : goal.loop-number-preserved
loop-number-preserved g c f named =
    value_more f c.loop-number.number c.args.names.now.items c.loop-number.names.items c.push.new.self.items c.named.result (c.loop-number.invariant f named) c.in_ok-push.ensures.items
    (named c.loop-number.number (omega (arith, c.loop-number-test.true, c.ranges.count.fits)) c.named.result c.named.ensures)
