use Rattle.std.proofs.Common.{inl, [], ◌∷◌, refl, arith}
use Rattle.site_store.proofs.Words.{Offset}
use Rattle.site_store.proofs.places.rows.empty_log.Goals as goal

pub returns-clause-offset : goal.returns-clause-offset
returns-clause-offset c = record { before = record { disk = Offset 0; kept = 0 } ∷ []; after = []; order = refl; fit = (inl refl, tt); misfit = grind arith; floor_is = grind arith }

pub returns-clause-position : goal.returns-clause-position
returns-clause-position c = record { before = []; after = []; order = refl; fit = tt; misfit = grind arith; floor_is = grind arith }
