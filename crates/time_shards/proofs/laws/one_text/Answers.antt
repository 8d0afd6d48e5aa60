use Rattle.time_shards.proofs.Texts.{table_same}
use Rattle.time_shards.proofs.laws.one_text.Goals as goal

pub returns : goal.returns
returns c x y t u e = table_same x y t.some u.some t.begins.each u.begins.each e
