-- Whole stores: the topology is written first, and stays.
use Rattle.std.proofs.Common.{◌≡◌, true, List, [], Some, refl, sym, true≢false, Bool}
use Rattle.turn_defs.specs.declared.node.Node.{Node}
use Rattle.turn_defs.specs.Setting.{Setting, Checked}
use Rattle.photon_model.specs.Topology.{Store, WholeSound, topology_of}
use Rattle.photon_model.specs.Runs.{Entry, world_after, IsRun, opening}
use Rattle.photon_model.specs.Images.{image}
use Rattle.photon_model.specs.Stores.{empty_disks, empty_store}
use Rattle.photon_model.proofs.Storing.{empty_sound}
use Rattle.photon_model.proofs.Closing.{sound_closes}
use Rattle.photon_model.proofs.Imaging.{leaves_sound}

pub empty_whole : (g : Setting) → WholeSound g empty_store
empty_whole g =
    record {
      records = sound_closes g empty_disks [] (empty_sound g);
      topology = λ e. absurd (true≢false (sym e));
      blank = λ e. record { offset = λ s lt. refl; pending = λ s lt. refl; server_epoch = λ s lt. refl; notes = λ r lt. refl; joiner_epoch = λ j is. refl; pairs = λ j is. refl };
    }

pub topology_comes : (g : Setting) (s : Store) → WholeSound g s → WholeSound g (record s { topology = Some (topology_of g) })
topology_comes g s w = record { records = w.records; topology = λ e. refl; blank = w.blank }

pub runs_keep_whole : (g : Setting) (s : Store) (es : List Entry) (landed : Node → Bool) → Checked g → WholeSound g s → s.topology ≡ Some (topology_of g) → IsRun g (opening s.disks) es →
    WholeSound g (record { topology = s.topology; disks = image g (world_after g (opening s.disks) es) landed; is_used = true })
runs_keep_whole g s es landed c w e r = record { records = leaves_sound g s.disks es landed c w.records r; topology = λ _. e; blank = λ f. absurd (true≢false f) }
