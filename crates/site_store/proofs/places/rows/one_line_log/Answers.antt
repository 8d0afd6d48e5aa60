use Rattle.std.proofs.Common.{inl, inr, [], ◌∷◌, refl, arith}
use Rattle.std.specs.Fmt.{digits}
use Rattle.site_store.proofs.Words.{one_click, Retry}
use Rattle.event_id.specs.EventId.{spell, dotted}
use Rattle.site_store.proofs.places.rows.one_line_log.Goals as goal

pub returns-clause-line : goal.returns-clause-line
unfolding spell dotted digits
returns-clause-line c = refl

pub returns-clause-end : goal.returns-clause-end
returns-clause-end c = (inr (record { place = 0; end_ = 36; click = one_click }, inl refl, refl), (inl refl, tt))

pub returns-clause-last_byte : goal.returns-clause-last_byte
returns-clause-last_byte c = record { before = []; after = []; order = refl; fit = tt; misfit = grind arith; floor_is = grind arith }

pub returns-clause-start : goal.returns-clause-start
returns-clause-start c = ((record { place = 0; end_ = 36; click = one_click }, refl), tt)

pub returns-clause-no_start : goal.returns-clause-no_start
returns-clause-no_start c =
    record {
      before = record { disk = Retry 0; kept = 0 } ∷ [];
      after = record { disk = Retry 0; kept = 7 } ∷ [];
      order = refl;
      fit = ((record { place = 0; end_ = 36; click = one_click }, refl), tt);
      misfit = grind arith;
      floor_is = grind arith;
    }
