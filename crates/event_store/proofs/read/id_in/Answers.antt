use Rattle.event_store.proofs.Words.{Decides-eqb, starts_is}
use Rattle.event_store.proofs.Looking.{not_begun, told_none}
use Rattle.event_store.proofs.read.id_in.Goals as goal

pub returns-then-not-starts_with : goal.returns-then-not-starts_with
returns-then-not-starts_with c = λ read reads.
    not_begun c.args.line.now c.args.front.now read c.starts_with.result (starts_is Decides-eqb c.args.line.now c.args.front.now c.starts_with.result c.starts_with.ensures.value).1 c.if-not-starts_with.true reads

pub returns-in-Err : goal.returns-in-Err
returns-in-Err c = λ read reads. told_none c.args.line.now c.args.front.now read c.in-Err.field-0 c.in-Err.ensures.why reads
