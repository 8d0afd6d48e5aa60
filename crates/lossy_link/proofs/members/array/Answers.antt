use Rattle.std.proofs.Common.{◌∙◌, map, option_map, Some, ap, sym}
use Rattle.serde_json.specs.View.{view}
use Rattle.lossy_link.specs.Members.{data_in}
use Rattle.lossy_link.proofs.MemberLists.{data_in-items}
use Rattle.lossy_link.proofs.members.array.Goals as goal

pub returns-in-Some : goal.returns-in-Some
returns-in-Some c = ap Some (ap (map view) c.as_slice.ensures.value ∙ sym (data_in-items _)) ∙ ap (option_map data_in) c.in-Some.ensures
