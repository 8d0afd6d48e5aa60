use Rattle.std.proofs.Common.{◌≡◌, ◌++◌, [], ◌∷◌, List, ap, length, ◌∙◌, sym, subst, arith}
use Rattle.packet_codec.proofs.Words.{AreCounted, Each, Insert, IsInsert, Spelled, counted, inserts, length-append}
use Rattle.list_words.proofs.Lists.{each_append}
use Rattle.packet_codec.proofs.BadPlaces.{stopped}
use Rattle.packet_codec.proofs.Counts.{inserts_read}
use Rattle.packet_codec.proofs.Made.{counted_bad}
use Rattle.packet_codec.proofs.fields.batches.InsertsField.read.Goals as goal

pub loop-preserved : goal.loop-preserved
loop-preserved c =
    let pushed : c.push.new.self ≡ c.loop.list ++ c.in_ok-insert.insert ∷ [] = c.in_ok-push.ensures.ok in
    let found = c.in_ok-insert.ensures.found in
    record {
      so_far = inserts_read c.args.bytes.now c.in_ok-count.count c.loop.list c.in_ok-insert.insert c.loop.rest.now c.in_ok-insert.behind.now c.loop.invariant.so_far found.1 ∙ ap (λ (xs : List Insert). c.in_ok-count.count ∷ (inserts xs ++ c.in_ok-insert.behind.now)) (sym pushed);
      count = omega (arith, ap (length {A = Insert}) pushed, length-append c.loop.list (c.in_ok-insert.insert ∷ []), c.loop.invariant.count);
      each = subst (Each IsInsert) (sym pushed) (each_append IsInsert c.loop.list (c.in_ok-insert.insert ∷ []) c.loop.invariant.each (found.0, tt));
    }

pub returns-in_err-insert-clause-bad : goal.returns-in_err-insert-clause-bad
returns-in_err-insert-clause-bad c =
    let bad = counted_bad c.loop.list c.in_ok-count.count c.args.bytes.now c.loop.rest.now c.in_err-insert.field-0.0 c.in_ok-count.ensures.high (omega (arith, c.loop.invariant.count, c.loop-test.true)) c.loop.invariant.each c.loop.invariant.so_far c.in_err-insert.ensures.bad in
    stopped (Spelled counted AreCounted) c.args.bytes.now c.in_err-insert.field-0.0 c.from_residual-in_err-insert.result c.from_residual-in_err-insert.ensures.1 bad
