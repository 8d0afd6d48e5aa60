use Rattle.std.proofs.Common.{◌∙◌, map, false, ap, Option}
use Rattle.std.specs.Option.{option_map_or}
use Rattle.serde_json.specs.Data.{Members}
use Rattle.lossy_link.specs.Members.{keys_within}
use Rattle.lossy_link.proofs.MemberLists.{keys_are}
use Rattle.lossy_link.proofs.members.has_only.Goals as goal

pub returns-in-Some : goal.returns-in-Some
returns-in-Some c =
    c.keys_within.ensures ∙ keys_are c.args.names.now c.in-Some.object.now.entries
    ∙ ap (λ (o : Option Members). option_map_or (keys_within (map (λ n. n.now) c.args.names.now)) o false) c.in-Some.ensures
