-- The words of this crate's proofs: what they take from its definitions and from the crates below, under one name each.
pub use Rattle.site_store.specs.Terms.{AreKeptPlaces, AreLeft, AreOf, Bytes, ClickLine, ClickRec, Clicks, DiskName, Disks, Each, EachPair, Follow, GoesOn, Holds, HoldsLines, IsBlank, IsBoundary, IsDisk, IsKeptIn, IsLogOf, IsOpened, IsSoundStore, IsTopology, IsVoted, IsWelcome, JournalFault, KeepSound, Keeps, KeepsNotes, KeepsOf, KeepsOffset, KeepsPairs, KeepsPending, KeepsTopology, KeepsVotes, LogName, Mem, Misplaced, Offset, PairRec, PlainTopology, ReplicaNote, Retry, Rose, RunFault, Setting, StandsFor, StaysAs, Store, StorePlace, StoreTopology, TellsTheReport, Topology, WholeSound, Within, added, at, end_from, first_joiner, gate_rule, has, joiner_of, journals, kept_of, line_feed, note_view, offset_of, one_click, pending_of, placed, topologies, topology_of, values_from, vote_record}
pub use Rattle.gate_journal.proofs.Growth.{continues_opened, continues_same, continues_through}
pub use Rattle.gate_journal.specs.Fold.{read_as}
pub use Rattle.gate_journal.specs.Growth.{Continues}
pub use Rattle.log_records.proofs.LineOrder.{at_mem, at_own, end_after, within_end}
pub use Rattle.log_records.proofs.Places.{lines_follow, lines_stand}
pub use Rattle.log_records.proofs.Reading.{click_lacks}
pub use Rattle.log_records.specs.Line.{IsClick, click_line}
pub use Rattle.memchr.specs.Find.{NoneAfter, Nowhere, Passes, is_byte}
pub use Rattle.packet_codec.specs.Notes.{IsNote, note}
pub use Rattle.photon_model.proofs.Words.{BallotNote, IsPair, JoinerKept, ReplicaKept, TopologyComesFirst, clash, each_append, each_from, each_more, mem_left, mem_right, mem_split, none_some}
pub use Rattle.site_laws.proofs.Keeping.{one_value}
pub use Rattle.site_laws.proofs.Naming.{choose}
pub use Rattle.site_laws.specs.StoreLaws.{IsTopologyWritten, KeepOneTopology, OpenedIsWhole, ReadNotesAreKept, ReadTopologyIsKept, TopologyFits, topology_read}
pub use Rattle.site_store.specs.Causes.{ArePassed, AreTold, HasCause, HasFailed, HasPassed, IsCause, IsUnfit, IsUnread, LeavesSomething, first_limit, joiners_asked}
pub use Rattle.site_store.specs.Floors.{IsBehindFeed, IsFloorFrom, IsFloorOf, NoneBetween}
pub use Rattle.site_store.specs.Kept.{Fits, FitsOn, IsStart, IsTold, KeptPlace, all_kept, on_disk, places_at}
pub use Rattle.site_store.specs.Kinds.{damaged_by, joiners_kept}
pub use Rattle.site_store.specs.Leaving.{IsAsked, IsOut, StayOrAsked}
pub use Rattle.site_store.specs.Lent.{IsLent, Lacks, Lent, MayBeLeft}
pub use Rattle.site_store.specs.LentDisks.{all_lent, lent_of}
pub use Rattle.site_store.specs.Misfits.{IsFit, IsFitFor, IsMisfit, limit_at, limit_in, or_else}
pub use Rattle.site_store.specs.Opening.{IsDamagedIn, IsRefusedBy, IsUnopened, told_by}
pub use Rattle.site_store.specs.Orders.{left_at}
pub use Rattle.site_store.specs.ReadBack.{AreAmongImages, AreReadFrom, EachWith, IsAnImage, IsOnlyRead, IsReadAs, OneWith, is_output, is_replica, notes_in, outputs, pairs_in, replicas}
pub use Rattle.site_store.specs.Reading.{IsOfValues, IsRead, notes_at, pairs_at}
pub use Rattle.site_store.specs.Records.{AllKept, AreKept, AreRecordsOf, EpochIs, IsKept, IsOfKind, KeepsAs, Kept, KeptDisk, KeptValues, NotesAre, OffsetIs, OpenView, PairsAre, PendingAre, Says, kept_all, kept_by, lent_all, lent_by, topology_lent, values_of}
pub use Rattle.site_store.specs.Refusals.{IsFirst, IsFirstDisk, IsJournalOf, WereJournals, other_names, site_names}
pub use Rattle.site_store.specs.Rows.{one_line}
pub use Rattle.site_store.specs.Telling.{KeepsNothing, Tells}
pub use Rattle.site_store.specs.Written.{AllKeep, IsUnwritten, IsWritten, StaysOrKeeps}
pub use Rattle.site_store.specs.declared.lent.disk.LentDisk.{LentDisk}
pub use Rattle.site_store.specs.declared.lent.reading.ReadAs.{ReadAs}
pub use Rattle.site_store.specs.declared.reading.kept.KeptStore.{KeptStore}
pub use Rattle.std.proofs.Math.ListN.{get_or-append, set}
pub use Rattle.std.proofs.lemmas.Bool.{cases_lt, eq-eqb, eqb-true, or_cases, or_left, or_right}
pub use Rattle.std.proofs.lemmas.List.{drop_more, get_or-append-add, get_or-drop, get_or-take, get_or_past, length-append, length-take, map-append, take-append-drop, take-append-le, take_more}
pub use Rattle.std.proofs.lemmas.List.Elements.{All-cons, All-nil, filter-append}
pub use Rattle.std.specs.List.{AllByRecursion, filter}
pub use Rattle.std.specs.Vec.Iter.{into_iter_items, into_iter_len}
