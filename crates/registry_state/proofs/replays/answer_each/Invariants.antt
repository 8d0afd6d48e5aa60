use Rattle.std.proofs.Common.{◌≡◌, List, length, map, take, unwrap_or, vec_len}
use Rattle.registry_state.specs.declared.Batch.{Batch}
use Rattle.registry_state.specs.declared.Answer.TheVariants.{Granted}
use Rattle.registry_state.specs.LookBack.{replay}
use Rattle.registry_state.proofs.replays.answer_each.Given as goal

-- the inserts so far are answered
abbrev pub invariant-loop-k : goal.invariant-loop-k
invariant-loop-k g l =
    record {
      size : vec_len l.blank ≡ length l.inserts;
      done : (applied : List Batch) → g.R.Replays.knows l.registry applied → take l.k l.blank.items ≡ map (λ x. unwrap_or (replay applied x.id x.token) Granted) (take l.k l.inserts);
    }
