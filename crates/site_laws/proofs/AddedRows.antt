-- A row behind those of the topology that the disks keep.
use Rattle.std.proofs.Common.{Some, refl, sym}
use Rattle.site_laws.proofs.Words.{some_same, Setting, topology_of, WholeSound, ShardRow, with_row, RowKeepsWhole, Images, IsDisk, IsChoice, KeepsTopology, KeepsOf, KeepSound, IsSoundStore, SameRecords, HoldSameRecords, SameIsWhole, IsRowAdded, RowIsSound}
use Rattle.outside.specs.declared.store.DiskName.TheVariants as name
use Rattle.site_laws.specs.Stores.{Bytes}
use Rattle.site_laws.proofs.Keeping.{keeps_again}
use Rattle.site_laws.proofs.Naming.{by_topology}
use Rattle.site_laws.proofs.Opening.{still, earlier, were_sound, used_so}
use Rattle.site_laws.proofs.SameDisks.{disk_back, keeps_onward}

module _ (one : HoldSameRecords) (same_whole : SameIsWhole) (keeps_whole : RowKeepsWhole) (g : Setting) (before after : Images) (row : ShardRow) (b : Bytes) (sound : IsSoundStore g before) (added : IsRowAdded g row before after) (choice : IsChoice g after b) where
  abbrev longer : Setting
  longer = with_row g row

  -- what was sound has the records that are kept now
  same : SameRecords g (were_sound g before after sound added.was added.others b choice).0.disks added.records
  same =
      let c = earlier g before after sound added.was added.others b choice in
      let x = were_sound g before after sound added.was added.others b choice in
      one g c.0 x.0.disks added.records x.1.records
      (by_topology (λ disk. IsDisk g disk → KeepsOf g added.records disk (c.0 disk)) (λ _. tt)
      (λ disk other is. keeps_again g added.records disk (b disk) (c.0 disk) (sym ((c.1 disk is).1 other)) (added.keep disk is (b disk) (choice disk is))))

  now_longer : KeepsTopology (Some (topology_of longer)) (b name.Topology) → KeepSound longer b
  now_longer keeps =
      let x = were_sound g before after sound added.was added.others b choice in
      let whole : WholeSound g (record x.0 { disks = added.records }) = same_whole g x.0 (record x.0 { disks = added.records }) refl refl same x.2 in (
        record x.0 { topology = Some (topology_of longer); disks = added.records },
        record {
          topology = keeps;
          records = λ disk is. let here = disk_back g longer refl refl disk is in keeps_onward g longer refl refl added.records disk (b disk) (added.keep disk here (b disk) (choice disk here));
          used = λ disk is. used_so g before after sound added.was added.others b choice disk (disk_back g longer refl refl disk is);
        },
        keeps_whole g (record x.0 { disks = added.records }) row whole added.free,
        λ t e. sym (some_same (topology_of longer) t e),
      )

pub row_sound : HoldSameRecords → SameIsWhole → RowKeepsWhole → (g : Setting) (before after : Images) → RowIsSound g before after
row_sound one same_whole keeps_whole g before after row b sound added choice = search (still, now_longer)
