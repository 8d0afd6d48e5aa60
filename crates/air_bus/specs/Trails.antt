-- What a trail tells.
use Rattle.std.specs.Prelude.{List, [], ◌∷◌, ◌++◌}
use Rattle.air_bus.specs.declared.trail.Way.{Way}
use Rattle.air_bus.specs.declared.trail.Way.TheVariants.{Start, More}

-- the list that a way leads through
abbrev pub told : {T : Type 0} → Way T → List T
told Start = []
told (More before thing) = before ++ thing.value ∷ []
