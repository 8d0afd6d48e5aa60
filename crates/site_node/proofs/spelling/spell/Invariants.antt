use Rattle.std.proofs.Common.{◌≡◌, take}
use Rattle.std.specs.Prelude.{map}
use Rattle.site_node.specs.Bytes.{addressed}
use Rattle.site_node.proofs.spelling.spell.Given as goal

-- the first packets are spelled
abbrev pub invariant-loop-sent : goal.invariant-loop-sent
invariant-loop-sent l = l.spelled ≡ map addressed (take l.sent-index l.packets)
