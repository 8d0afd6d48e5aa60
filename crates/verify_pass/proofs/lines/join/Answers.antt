use Rattle.std.proofs.Common.{◌≡◌, ◌<◌, length, get_or, ap, subst, ◌∙◌}
use Rattle.verify_pass.proofs.Words.{Equal, IsBinarySearchResult, id_cmp, id_of, joined}
use Rattle.verify_pass.proofs.Joining.{takes_at, takes_nowhere}
use Rattle.verify_pass.proofs.lines.join.Goals as goal

pub returns-in-Ok : goal.returns-in-Ok
returns-in-Ok c =
    let place = c.in-Ok.place in
    let at = c.index_mut.result.now in
    let same = c.deref.ensures.value in
    takes_at c.args.lines.now.items c.args.pair place at _
    (subst (λ l. place < length l) same c.in-Ok.ensures.bound)
    (subst (λ l. id_cmp (id_of (get_or l place at).value) c.args.pair.click.id ≡ Equal) same (c.in-Ok.ensures.place at))
    (c.join_line.ensures ∙ ap (joined c.args.pair) (c.deref_mut.ensures.value ∙ ap (λ b. b.value) c.index_mut.ensures.value))

pub returns-in_default : goal.returns-in_default
returns-in_default c =
    let id = c.args.pair.click.id in
    let here = subst (λ l. IsBinarySearchResult (λ b. id_cmp (id_of b.value) id) l c.find.result) c.deref.ensures.value c.find.ensures.place in
    takes_nowhere c.args.lines.now.items c.args.pair c.in_default.field-0 (subst (λ r. IsBinarySearchResult (λ b. id_cmp (id_of b.value) id) c.args.lines.now.items r) c.in_default.is here)
