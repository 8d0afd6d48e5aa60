use Rattle.packet_codec.proofs.Made.{query_apart}
use Rattle.packet_codec.proofs.fields.records.QueryRecField.told_apart.Goals as goal

pub returns : goal.returns
returns c = query_apart
