use Rattle.bulk_logs.proofs.Growing.{one_drawn, other_drawn, next_after, query_log_more, click_log_more}
use Rattle.bulk_logs.proofs.logs.make_logs.Goals as goal

pub lines-preserved : goal.lines-preserved
lines-preserved c =
    let seed = c.args.seed in
    let k = c.lines.place in
    let one = one_drawn seed k _ _ _ c.lines.invariant.numbers c.draw-one.ensures.next c.draw-one.ensures.drawn in
    let other = other_drawn seed k _ _ _ _ c.lines.invariant.numbers c.draw-one.ensures.next c.draw-other.ensures.next c.draw-other.ensures.drawn in
    record {
      numbers = next_after seed k _ _ _ c.lines.invariant.numbers c.draw-one.ensures.next c.draw-other.ensures.next;
      query_bytes = query_log_more seed k _ _ _ _ c.lines.invariant.query_bytes one other c.in_ok-put_query.ensures;
      click_bytes = click_log_more seed k _ _ _ _ c.lines.invariant.click_bytes one other c.in_ok-put_click.ensures;
    }
