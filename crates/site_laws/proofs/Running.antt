-- What a run leaves of a store's disks.
use Rattle.std.proofs.Common.{◌≡◌, true, Option, Some, refl, sym, ◌∙◌, subst}
use Rattle.site_laws.proofs.Words.{some_same, Node, Setting, Disks, Topology, topology_of, DiskName, KeptOf, StateOf, all_left, MayLeave, LeftIsWhole, Images, IsDisk, IsChoice, KeepsFor, KeepsTopology, HoldsRecords, AreKept, node_with, LeftIsHeld, RunStaysSound}
use Rattle.outside.specs.declared.store.DiskName.TheVariants as name
use Rattle.site_laws.specs.Stores.{Bytes}
use Rattle.site_laws.proofs.Naming.{by_node, node_of_disk}

module _ (g : Setting) (at : (n : Node) → StateOf n) (image : Images) (b : Bytes) (kept : AreKept g at image) (choice : IsChoice g image b) where
  -- the bytes of a node's disks keep these records
  abbrev KeepsBy : (n : Node) → KeptOf n → Type 0
  KeepsBy n k = (disk : DiskName) → IsDisk g disk → node_with g disk ≡ Some n → KeepsFor n k disk (b disk)

  left_held : (d : Disks) → (left : Disks) × MayLeave g d at left × HoldsRecords g b left
  left_held d =
      let x = all_left g d at KeepsBy (λ n is. kept.nodes n is b (λ disk here own. choice disk here)) in
      (x.0, x.1, λ disk here. by_node (node_with g disk) _ (λ n own. x.2 n (node_of_disk g disk n here own) disk here own))

pub left_is_held : (g : Setting) (image : Images) → LeftIsHeld g image
left_is_held g image d at b kept choice = left_held g at image b kept choice d

pub run_sound : LeftIsWhole → (g : Setting) (image : Images) → RunStaysSound g image
run_sound whole g image s h at es checked sound topology run kept b choice =
    let x = left_held g at image b kept choice s.disks in (
      record { topology = s.topology; disks = x.0; is_used = true },
      record {
        topology = subst (λ (t : Option Topology). KeepsTopology t (b name.Topology)) (sym topology) (kept.topology (b name.Topology) (choice name.Topology tt));
        records = x.2;
        used = λ disk is other some. refl;
      },
      whole g s h at es x.0 checked sound topology run x.1,
      λ t e. sym (some_same (topology_of g) t (sym topology ∙ e)),
    )
