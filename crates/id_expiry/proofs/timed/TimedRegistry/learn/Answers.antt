use Rattle.std.proofs.Common.{List, [], ◌∷◌, ◌++◌, take, sym, subst, arith}
use Rattle.std.proofs.lemmas.List.{take_more}
use Rattle.registry_state.specs.declared.Insert.{Insert}
use Rattle.registry_state.specs.Registry.{batch_of}
use Rattle.id_expiry.specs.Timed.{Knows}
use Rattle.id_expiry.proofs.timed.TimedRegistry.learn.Goals as goal

pub loop-insert-preserved : goal.loop-insert-preserved
loop-insert-preserved c =
    let bound = c.args.batch.now.bound in
    let items = c.as_slice-insert-items.result.now in
    let k = c.loop-insert.insert-index in
    record {
      place = omega (arith, c.claim.ensures.room);
      used = omega (arith, c.claim.ensures.room, c.loop-insert.invariant.used);
      known = λ applied known. subst (λ (xs : List Insert). Knows c.claim.new.self (applied ++ batch_of bound xs ∷ [])) (sym (take_more items k _ (omega arith))) (c.claim.ensures.known applied bound (take k items) (c.loop-insert.invariant.known applied known));
    }
