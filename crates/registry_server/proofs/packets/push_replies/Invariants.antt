use Rattle.std.proofs.Common.{◌≡◌, ◌++◌, take}
use Rattle.registry_server.proofs.Words.{Setting, setting, sent, each_reply}
use Rattle.registry_server.proofs.packets.push_replies.Given as goal

-- the Replies so far
abbrev pub invariant-loop-insert : goal.invariant-loop-insert
invariant-loop-insert l = (g : Setting) → sent l.packets.items ≡ sent l.initial.packets.items ++ each_reply (setting l.station g) l.station.site (take l.insert-index l.answered)
