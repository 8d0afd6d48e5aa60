-- A ballot is drawn for one place alone.
use Rattle.std.specs.Prelude.{◌≡◌, List, ◌<◌}
use Rattle.photon_model.specs.Terms.{Accept, Ballot, Batch, Place, Prepare, Sent, Setting}
use Rattle.photon_model.specs.Runs.{Entry, Disks, world_after, IsRun, opening}
use Rattle.photon_model.specs.Claims.{HasSent}

abbrev pub Prepared : List Sent → Place → Ballot → Type 0
Prepared sent at b = HasSent sent (Prepare at b)

-- two Prepare packets of one ballot have one place, and each Accept packet's ballot was prepared for its place
abbrev pub BallotsAlone : List Sent → Type 0
BallotsAlone sent =
    ((at place : Place) (b : Ballot) → Prepared sent at b → Prepared sent place b → at ≡ place)
    × ((at : Place) (b : Ballot) (v : Batch) → HasSent sent (Accept at b v) → Prepared sent at b)

abbrev pub EveryBallotAlone : Type 0
EveryBallotAlone = (g : Setting) → 0 < g.config.replicas → (d : Disks) (es : List Entry) → IsRun g (opening d) es → BallotsAlone (world_after g (opening d) es).sent
