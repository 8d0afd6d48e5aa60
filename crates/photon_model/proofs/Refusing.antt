-- What is no run, and no sound store.
use Rattle.std.proofs.Common.{◌≡◌, [], ◌∷◌, refl, arith}
use Rattle.photon_model.proofs.Words.{journals}
use Rattle.paxos_defs.specs.Decided as paxos
use Rattle.photon_model.specs.Rows.{only_bound, accepted_by}
use Rattle.photon_model.specs.Journals.{decided}
use Rattle.photon_model.specs.Example.{RunsAreStrict, StoresAreStrict}

pub runs_are_strict : RunsAreStrict
runs_are_strict = grind arith

-- ---- stores

-- a batch without inserts is decided, and grants nothing
only_bound_decided : decided (journals 3 (accepted_by 2 (only_bound 0))) 3 ≡ only_bound 0 ∷ []
only_bound_decided = unfold paxos.decided in refl

pub stores_are_strict : StoresAreStrict
stores_are_strict = grind (arith, only_bound_decided)
