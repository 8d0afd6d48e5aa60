-- Each join in flight has sent its insert.
use Rattle.std.specs.Prelude.{◌≡◌, ℕ, List, Some}
use Rattle.photon_model.specs.Terms.{Flight, JoinerLive, Mem, Packet, Sent, Setting, insert_of}
use Rattle.turn_defs.specs.declared.packet.Packet.TheVariants.{Insert}
use Rattle.photon_model.specs.Runs.{World, Entry, Disks, world_after, IsRun, opening}

abbrev pub HasSent : List Sent → Packet → Type 0
HasSent sent p = (x : Sent) × Mem x sent × (x.packet ≡ p)

abbrev pub ClaimsSent : World → Type 0
ClaimsSent w = (j : ℕ) (l : JoinerLive) → (w.joiners j).live ≡ Some l → (f : Flight) → Mem f l.flight → HasSent w.sent (Insert (insert_of f))

abbrev pub EveryClaimSent : Type 0
EveryClaimSent = (g : Setting) (d : Disks) (es : List Entry) → IsRun g (opening d) es → ClaimsSent (world_after g (opening d) es)
