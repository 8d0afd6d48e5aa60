use Rattle.packet_codec.proofs.Made.{some_capped}
use Rattle.packet_codec.proofs.fields.numbers.CappedField.some_value.Goals as goal

pub returns : goal.returns
returns g c = some_capped g.row.MOST
