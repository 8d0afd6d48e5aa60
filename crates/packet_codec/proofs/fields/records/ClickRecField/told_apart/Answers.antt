use Rattle.packet_codec.proofs.Made.{click_apart}
use Rattle.packet_codec.proofs.fields.records.ClickRecField.told_apart.Goals as goal

pub returns : goal.returns
returns c = click_apart
