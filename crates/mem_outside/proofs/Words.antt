-- The words of this crate's proofs: what they take from its definitions and from the crates below, under one name each.
pub use Rattle.mem_outside.specs.Kept.{AreCalmed, ImageIn, IsCalmed, disk_of, fuses_for, made_in, same_name, stops_in}
pub use Rattle.mem_outside.specs.Past.{HadImage, HasImage, IsImage, IsTied, State, after, after_write, bytes_of, chosen, image_to_take, put, replay, settled, state_after, total}
pub use Rattle.mem_outside.specs.Plan.{is_planned, noted_sync, planned}
pub use Rattle.mem_outside.specs.Unsynced.{AgreesElsewhere, IsTaken, IsUnsynced, covered, covers, end_of, extent}
pub use Rattle.mem_outside.specs.declared.call.Call.{Call}
pub use Rattle.mem_outside.specs.declared.call.Call.TheVariants.{FailedSync, Reopen, Sync, Write}
pub use Rattle.mem_outside.specs.declared.store.Kept.{Kept}
pub use Rattle.outside.specs.Disk.{Elapses, Follows, Only, Torn, Within}
pub use Rattle.outside.specs.declared.image.Image.{Image}
pub use Rattle.outside.specs.declared.store.DiskName.{DiskName}
pub use Rattle.std.proofs.lemmas.List.{append-nil, drop_all, drop_at, drop_more, ext_get_or, get_or-append_right, get_or-drop, get_or-replicate, get_or-take, get_or_append_left, length-drop, length-replicate, length-take-le, take-append-drop, take-append-le, take_all, take_at}
pub use Rattle.std.specs.Prelude.{false, replicate}
