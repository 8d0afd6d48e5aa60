use Rattle.std.proofs.Common.{◌≡◌, ◌≤◌, length, vec_capacity}
use Rattle.site_run.proofs.Words.{count_of, view_of}
use Rattle.site_run.proofs.Making.{AreMade}
use Rattle.site_run.proofs.built.building.build.Given as goal

abbrev pub invariant-loop-number : goal.invariant-loop-number
invariant-loop-number g l = record {
  count : length l.nodes.items ≡ l.number;
  room : count_of l.fn.config ≤ vec_capacity l.nodes;
  made : AreMade g.N.SiteNode.number g.N.SiteNode.waits g.N.SystemNode.places g.N.Parting.disks_of g.N.Parting.logs_of g.D.Disk.tells g.L.LogFile.bytes
      (record { config = l.fn.config; rest = l.fn.opened.disks.items; clicks = l.fn.logs.clicks.items; queries = l.fn.logs.queries.items; disks = l.fn.room.parts.disks.items; logs = l.fn.room.parts.logs.items }) l.nodes.items (view_of l.stock);
}
