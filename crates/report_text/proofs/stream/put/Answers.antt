use Rattle.std.proofs.Common.{◌≡◌, ◌++◌, ap, ◌∙◌, subst}
use Rattle.std.proofs.lemmas.Result.{on_err_weaker, on_ok_weaker}
use Rattle.std.specs.Prelude.{OnErr}
use Rattle.report_text.specs.Stream.{TookPrefix}
use Rattle.report_text.proofs.Streams.{given_ok, given_err, waits_now, went_too, all_sent, passes_part, longer, on_err}
use Rattle.report_text.proofs.stream.put.Goals as goal

pub returns-in_err-flush-clause-prefix : goal.returns-in_err-flush-clause-prefix
returns-in_err-flush-clause-prefix g c = λ t.
    let same = ap (λ b. b.items) (given_err _ _ c.if-is_ok.ensures.value c.try_extend_from_slice.ensures.err) in
    on_err c.from_residual.result (subst (λ b. TookPrefix (g.K.Sink.held c.args.sink.now) (b ++ c.args.bytes.now) (g.K.Sink.held c.flush.new.sink)) same (longer _ _ _ _ (c.in_err-flush.ensures.prefix t)))

pub returns-then-is_ok-2-clause-passed : goal.returns-then-is_ok-2-clause-passed
returns-then-is_ok-2-clause-passed g c = λ t.
    let same = ap (λ b. b.items) (given_err _ _ c.if-is_ok.ensures.value c.try_extend_from_slice.ensures.err) in
    let took = given_ok _ _ c.if-is_ok-2.ensures.value c.try_extend_from_slice-2.ensures.ok in
    waits_now _ _ _ _ _ (c.in_ok-flush.ensures.all t ∙ ap (λ b. g.K.Sink.held c.args.sink.now ++ b) same) (took ∙ ap (λ b. b ++ c.args.bytes.now) c.in_ok-flush.ensures.empty)

pub returns-clause-prefix : goal.returns-clause-prefix
returns-clause-prefix g c = λ t.
    let same = ap (λ b. b.items) (given_err _ _ c.if-is_ok.ensures.value c.try_extend_from_slice.ensures.err) in
    subst (λ b. OnErr c.write_all.result (TookPrefix (g.K.Sink.held c.args.sink.now) (b ++ c.args.bytes.now) (g.K.Sink.held c.write_all.new.sink))) same
    (on_err_weaker c.write_all.result (passes_part _ _ _ _ _ _ (all_sent _ _ _ (c.in_ok-flush.ensures.all t))) (c.write_all.ensures.prefix t))

pub returns-clause-passed : goal.returns-clause-passed
returns-clause-passed g c = λ t.
    let same = ap (λ b. b.items) (given_err _ _ c.if-is_ok.ensures.value c.try_extend_from_slice.ensures.err) in
    let still = ap (λ b. b.items) (given_err _ _ c.if-is_ok-2.ensures.value c.try_extend_from_slice-2.ensures.err) in
    on_ok_weaker c.write_all.result
    (λ (sent : g.K.Sink.held c.write_all.new.sink ≡ g.K.Sink.held c.flush.new.sink ++ c.args.bytes.now).
    went_too _ _ _ _ _ _ (c.in_ok-flush.ensures.all t ∙ ap (λ b. g.K.Sink.held c.args.sink.now ++ b) same) sent (still ∙ c.in_ok-flush.ensures.empty))
    (c.write_all.ensures.all t)
