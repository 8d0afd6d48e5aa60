-- While turns are open each disk may hold its node's records, or those and the open turn's note.
use Rattle.std.specs.Prelude.{◌≡◌, List, ◌++◌, Bool, ◌&&◌, is_some, if◌then◌else◌, None}
use Rattle.photon_model.specs.Terms.{Dispatcher, Joiner, Node, Note, Out, Replica, Server, Setting, land, land_dispatcher, land_joiner, land_replica, land_server}
use Rattle.photon_model.specs.Sound.{SoundStore}
use Rattle.photon_model.specs.Runs.{Cell, World, Entry, Disks, disks, dispatcher_row, server_row, replica_row, joiner_row, world_after, IsRun, opening}

-- what a stop now leaves of a node, the open turn's note having landed or not
abbrev pub left_by : {K L : Type 0} → (Note → K → K) → Out L → Bool → Cell K L → K
left_by f o landed c = land f (if is_some c.opened && landed then o.note else None) c.kept

-- what stops of all nodes now leave, where landed says whose note has landed
abbrev pub image : Setting → World → (Node → Bool) → Disks
image g w landed =
    record {
      dispatchers = λ s. left_by land_dispatcher (dispatcher_row g s (w.dispatchers s)) (landed (Dispatcher s)) (w.dispatchers s);
      servers = λ s. left_by land_server (server_row g s (w.servers s)) (landed (Server s)) (w.servers s);
      replicas = λ r. left_by land_replica (replica_row (w.replicas r)) (landed (Replica r)) (w.replicas r);
      joiners = λ j. left_by land_joiner (joiner_row g j (w.joiners j)) (landed (Joiner j)) (w.joiners j);
    }

-- whichever open turns' notes have landed, what is left is sound
abbrev pub LeavesSound : Setting → World → Type 0
LeavesSound g w = (landed : Node → Bool) → SoundStore g (image g w landed)

-- and is what some run leaves: this one, with a stop of each node that has an open turn at its end
abbrev pub ImagesAreRuns : Type 0
ImagesAreRuns =
    (g : Setting) (d : Disks) (es : List Entry) (landed : Node → Bool) → IsRun g (opening d) es →
    (stops : List Entry) × IsRun g (opening d) (es ++ stops) × (disks (world_after g (opening d) (es ++ stops)) ≡ image g (world_after g (opening d) es) landed)
