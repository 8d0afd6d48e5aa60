use Rattle.std.proofs.Common.{map, length, ap, ◌∙◌, length-append, arith}
use Rattle.site_run.proofs.Words.{all_from, as_lent, length-map, lent_all, lent_by, topology_lent}
use Rattle.site_run.proofs.Making.{disks_given, logs_given, logs_size, size_given}
use Rattle.site_run.proofs.built.building.give_up.Goals as goal

pub put_open-requires : goal.put_open-requires
put_open-requires g c =
    let size = size_given c.args.stock.parts.disks.items c.apart-parts.result.disks.items _ c.args.stock.rest.items c.apart-parts.ensures.disks in
    omega (arith, size, c.requires.all_disks, c.apart-parts.ensures.disk_room, c.args.stock.disk_room)

pub put-requires : goal.put-requires
put-requires g c =
    let size = size_given c.args.stock.parts.disks.items c.apart-parts.result.disks.items _ c.args.stock.rest.items c.apart-parts.ensures.disks in
    let put = ap length c.put_open.ensures.disks in
    omega (arith, size, put, length-append (map as_lent c.apart-parts.result.disks.items) (lent_all c.args.stock.rest.items), length-map c.put_open.new.parts.disks.items as_lent, length-map c.apart-parts.result.disks.items as_lent, length-map c.args.stock.rest.items lent_by, c.requires.all_disks, c.put_open.ensures.room, c.apart-parts.ensures.disk_room, c.args.stock.disk_room)

pub put_all-requires : goal.put_all-requires
put_all-requires g c =
    let size = logs_size c.args.stock.parts.logs.items c.put.new.self.logs.items (all_from (λ _. g.N.Parting.logs_of) 0 c.args.nodes.items) c.args.stock.logs.clicks.items c.args.stock.logs.queries.items (c.put.ensures.logs ∙ c.put_open.ensures.logs ∙ c.apart-parts.ensures.logs) in
    omega (arith, size, c.requires.all_logs, c.put.ensures.log_room, c.put_open.ensures.log_room, c.apart-parts.ensures.log_room, c.args.stock.log_room)

pub put_all-requires-2 : goal.put_all-requires-2
put_all-requires-2 g c =
    let size = logs_size c.args.stock.parts.logs.items c.put.new.self.logs.items (all_from (λ _. g.N.Parting.logs_of) 0 c.args.nodes.items) c.args.stock.logs.clicks.items c.args.stock.logs.queries.items (c.put.ensures.logs ∙ c.put_open.ensures.logs ∙ c.apart-parts.ensures.logs) in
    let put = ap length c.put_all.ensures.items in
    omega (arith, size, put, length-append c.put.new.self.logs.items c.args.stock.logs.clicks.items, c.requires.all_logs, c.put_all.ensures.room, c.put.ensures.log_room, c.put_open.ensures.log_room, c.apart-parts.ensures.log_room, c.args.stock.log_room)

pub returns-clause-disks : goal.returns-clause-disks
returns-clause-disks g c = disks_given _ _ _ _ _ _ _ _ c.apart-parts.ensures.disks c.put_open.ensures.disks c.put.ensures.disks (ap (λ x. topology_lent x) c.into_disk.ensures)

pub returns-clause-logs : goal.returns-clause-logs
returns-clause-logs g c = logs_given _ _ _ _ _ _ _ (c.put.ensures.logs ∙ c.put_open.ensures.logs ∙ c.apart-parts.ensures.logs) c.put_all.ensures.items c.put_all-2.ensures.items
