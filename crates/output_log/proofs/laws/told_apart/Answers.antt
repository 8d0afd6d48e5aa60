use Rattle.std.proofs.Common.{[], refl, sym}
use Rattle.output_log.specs.Pairs.{fields_of, record_of}
use Rattle.output_log.proofs.Parts.{one_pair, none_behind}
use Rattle.output_log.proofs.laws.told_apart.Goals as goal

pub returns : goal.returns
returns c p q is_p is_q e = (one_pair c.told_apart.ensures c.told_apart-2.ensures c.told_apart-3.ensures p q 6 (record_of p) (fields_of p) [] is_p is_q refl (sym (none_behind p)) e).0
