use Rattle.std.proofs.Common.{◌≡◌, ◌&&◌, [], List, not, filter, cond, rules, sym, ap, subst, ◌∙◌}
use Rattle.std.specs.Prelude.{Option, Some, None, unwrap_or}
use Rattle.batch_queue.proofs.Words.{values_of, get, same_id, Insert, has_token, IsOnce, IsNumbered, with_id, without}
use Rattle.batch_queue.proofs.Groups.{Group, taken_out}
use Rattle.batch_queue.proofs.Numbered.{filtered, without_filter, with_id-less, none_gone, values-filter}
use Rattle.batch_queue.proofs.Waiting.{tokens_left, once_part}
use Rattle.batch_queue.proofs.settled.Settled.drop_id.Goals as goal

pub returns-in_default : goal.returns-in_default
returns-in_default c =
    let old = c.args.self.now in
    let id = c.args.id in
    let es = old.in_order.entries in
    let none : get same_id old.by_id id ≡ None = search rules in
    let empty : [] ≡ with_id id es = sym (ap (λ (o : Option Group). unwrap_or o []) none) ∙ old.grouped id in
    ap values_of (sym (none_gone id es empty)) ∙ values-filter (λ x. not (same_id id x.id)) es

pub invariant_of-self-2 : goal.invariant_of-self-2
invariant_of-self-2 c =
    let old = c.args.self.now in
    let id = c.args.id in
    let es = old.in_order.entries in
    let some : get same_id old.by_id id ≡ Some c.in-Some.group = search rules in
    let gone : c.as_slice.result.now ≡ with_id id es = c.as_slice.ensures ∙ sym (ap (λ (o : Option Group). unwrap_or o []) some) ∙ old.grouped id in
    let order : c.forget.new.in_order.entries ≡ filter (λ e. not (same_id id e.1.id)) es
    = c.forget.ensures.order ∙ ap (λ (g : Group). without g es) gone ∙ without_filter (λ e. same_id id e.1.id) 0 old.next es old.numbered in
    let values : values_of c.forget.new.in_order.entries ≡ filter (λ x. not (same_id id x.id)) (values_of es) = ap values_of order ∙ values-filter (λ x. not (same_id id x.id)) es in
    let out : values_of c.as_slice.result.now ≡ filter (λ x. same_id id x.id) (values_of es) = ap values_of gone ∙ values-filter (λ x. same_id id x.id) es in
    record {
      numbered = subst (IsNumbered 0 old.next) (sym order) (filtered (λ e. not (same_id id e.1.id)) 0 old.next es old.numbered);
      grouped = λ i. taken_out (get same_id old.by_id) (get same_id c.remove.new.self) id c.remove.ensures.updates.0 i ∙ ap (cond (same_id id i) []) (old.grouped i) ∙ sym (with_id-less id i es) ∙ ap (with_id i) (sym order);
      marked = λ t. c.forget.ensures.tokens t ∙ (λ j. old.marked t j && not (has_token (out j) t)) ∙ tokens_left (λ x. same_id id x.id) (values_of es) t old.once ∙ ap (λ (xs : List Insert). has_token xs t) (sym values);
      once = subst IsOnce (sym values) (once_part (λ x. not (same_id id x.id)) (values_of es) old.once);
    }

pub returns : goal.returns
returns c =
    let old = c.args.self.now in
    let id = c.args.id in
    let es = old.in_order.entries in
    let some : get same_id old.by_id id ≡ Some c.in-Some.group = search rules in
    let gone : c.as_slice.result.now ≡ with_id id es = c.as_slice.ensures ∙ sym (ap (λ (o : Option Group). unwrap_or o []) some) ∙ old.grouped id in
    ap values_of (c.forget.ensures.order ∙ ap (λ (g : Group). without g es) gone ∙ without_filter (λ e. same_id id e.1.id) 0 old.next es old.numbered) ∙ values-filter (λ x. not (same_id id x.id)) es
