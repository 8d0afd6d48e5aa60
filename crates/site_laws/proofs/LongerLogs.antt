-- A store whose logs have grown.
use Rattle.std.proofs.Common.{◌≡◌, ◌∙◌, arith}
use Rattle.site_laws.proofs.Words.{Setting, topology_of, IsOneTopology, LongerKeepsWhole, Images, LongerStaysSound}
use Rattle.site_laws.proofs.SameDisks.{disk_onward, disk_back, keeps_onward}

topology_same : (g h : Setting) → IsOneTopology g h → topology_of g ≡ topology_of h
topology_same g h one = grind arith

pub longer_sound : LongerKeepsWhole → (image : Images) → LongerStaysSound image
longer_sound whole image g h query_log click_log more_queries more_clicks longer sound b choice =
    let joiners = longer.topology.joiners in
    let replicas = longer.topology.replicas in
    let x = sound b (λ disk is. choice disk (disk_onward g h joiners replicas disk is)) in (
      x.0,
      record {
        topology = x.1.topology;
        records = λ disk is. keeps_onward g h joiners replicas x.0.disks disk (b disk) (x.1.records disk (disk_back g h joiners replicas disk is));
        used = λ disk is other some. x.1.used disk (disk_back g h joiners replicas disk is) other some;
      },
      whole g h query_log click_log more_queries more_clicks x.0 longer x.2,
      λ t e. x.3 t e ∙ topology_same g h longer.topology,
    )
