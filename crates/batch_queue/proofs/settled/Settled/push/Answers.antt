use Rattle.std.proofs.Common.{◌≡◌, ◌+◌, ◌++◌, ◌∷◌, [], ℕ, suc, List, true, cond, rules, arith, sym, ap, subst, ◌∙◌}
use Rattle.std.specs.Prelude.{is_err}
use Rattle.batch_queue.proofs.Words.{nat_cmp, values_of, remove_entry, is_at, EventId, Insert, same_token, succeeded, has_token, IsOnce, IsNumbered, with_id, group_at}
use Rattle.batch_queue.proofs.Groups.{failed}
use Rattle.batch_queue.proofs.Numbered.{insert_last, remove_last, pushed, with_id-push, values-push}
use Rattle.batch_queue.proofs.Waiting.{tokens_push, once_push}
use Rattle.batch_queue.proofs.settled.Settled.push.Goals as goal

pub invariant_of-self-in-Break-branch-2 : goal.invariant_of-self-in-Break-branch-2
invariant_of-self-in-Break-branch-2 c =
    let old = c.args.self.now in
    let e : c.insert.new.self.entries ≡ old.in_order.entries = search rules in
    record {
      numbered = subst (IsNumbered 0 old.next) (sym e) old.numbered;
      grouped = λ i. old.grouped i ∙ ap (with_id i) (sym e);
      marked = λ t. c.reserve.ensures.keys.2 t ∙ old.marked t ∙ ap (λ (es : List (ℕ × Insert)). has_token (values_of es) t) (sym e);
      once = subst (λ (es : List (ℕ × Insert)). IsOnce (values_of es)) (sym e) old.once;
    }

pub invariant_of-self-then-is_err : goal.invariant_of-self-then-is_err
invariant_of-self-then-is_err c =
    let old = c.args.self.now in
    let x = c.args.insert in
    let e : c.remove.new.self.entries ≡ old.in_order.entries
    = c.remove.ensures.entries ∙ ap (remove_entry (is_at (nat_cmp old.next))) (c.in_ok-insert.ensures.entries ∙ insert_last 0 old.next old.in_order.entries x old.numbered) ∙ remove_last 0 old.next old.in_order.entries x old.numbered in
    let off : is_err c.join.result ≡ true = search rules in
    let same : (i : EventId) → group_at c.join.new.by_id i ≡ group_at old.by_id i = failed c.join.result _ off c.join.ensures.err in
    record {
      numbered = subst (IsNumbered 0 old.next) (sym e) old.numbered;
      grouped = λ i. same i ∙ old.grouped i ∙ ap (with_id i) (sym e);
      marked = λ t. c.reserve.ensures.keys.2 t ∙ old.marked t ∙ ap (λ (es : List (ℕ × Insert)). has_token (values_of es) t) (sym e);
      once = subst (λ (es : List (ℕ × Insert)). IsOnce (values_of es)) (sym e) old.once;
    }

pub invariant_of-self-2 : goal.invariant_of-self-2
invariant_of-self-2 c =
    let old = c.args.self.now in
    let x = c.args.insert in
    let es = old.in_order.entries in
    let e : c.insert.new.self.entries ≡ es ++ (old.next, x) ∷ [] = c.in_ok-insert.ensures.entries ∙ insert_last 0 old.next es x old.numbered in
    let joined : (i : EventId) → group_at c.join.new.by_id i ≡ group_at old.by_id i ++ with_id i ((old.next, x) ∷ []) = search rules in
    let put = succeeded c.insert-2.result _ (c.insert-2.ensures.succeeds (omega (arith, c.in_ok-reserve.ensures.ok))) c.insert-2.ensures.updates in
    let values : values_of c.insert.new.self.entries ≡ values_of es ++ x ∷ [] = ap values_of e ∙ values-push es (old.next, x) in
    let one : suc old.next ≡ old.next + 1 = omega arith in
    record {
      numbered = subst (λ n. IsNumbered 0 n c.insert.new.self.entries) one (subst (IsNumbered 0 (suc old.next)) (sym e) (pushed 0 old.next es x old.numbered));
      grouped = λ i. joined i ∙ ap (λ (g : List (ℕ × Insert)). g ++ with_id i ((old.next, x) ∷ [])) (old.grouped i) ∙ sym (with_id-push i es (old.next, x)) ∙ ap (with_id i) (sym e);
      marked = λ t. put.0 t ∙ ap (cond (same_token x.token t) true) (c.reserve.ensures.keys.2 t ∙ old.marked t) ∙ sym (tokens_push (values_of es) x t) ∙ ap (λ (xs : List Insert). has_token xs t) (sym values);
      once = subst IsOnce (sym values) (once_push (values_of es) x old.once c.requires);
    }

pub returns-clause-ok : goal.returns-clause-ok
returns-clause-ok c =
    let old = c.args.self.now in
    let x = c.args.insert in
    ap values_of (c.in_ok-insert.ensures.entries ∙ insert_last 0 old.next old.in_order.entries x old.numbered) ∙ values-push old.in_order.entries (old.next, x)
