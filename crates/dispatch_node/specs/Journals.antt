-- The journals of a dispatcher, and the records that they hold.
use Rattle.std.proofs.Common.{◌≡◌, ◌⊎◌, inl, inr, ⊎_elim, ℕ, ◌+◌, ◌<◌, Bool, true, List, Some, refl, sym, ◌∙◌, subst}
use Rattle.std.specs.Prelude.{IsTrue}
use Rattle.dispatch_node.specs.Terms.{false≢true, Advance, AtMost, Continues, DispatchNote, DispatcherKept, MeetsStops, NodeDisk, Note, Numbered, OfBoth, Park, Ready, Settle, Throughout, land_dispatcher, of_two, spare, told}
use Rattle.gate_journal.proofs.Growth.{continues_same}
use Rattle.gate_journal.specs.Disk.{HasRoom}
use Rattle.gate_journal.specs.Opening.{IsOpened}
use Rattle.offset_journal.specs.Offsets as offsets
use Rattle.outside.specs.declared.disk.Disk as disk
use Rattle.retry_log.specs.Pending as pending
use Rattle.turn_defs.specs.Turns as note
use Rattle.dispatch_node.specs.Kept.{OnDisks, both_ready, kept_as, takes_note}
use Rattle.dispatch_node.specs.declared.journals.Journals.{Journals}

-- a note is on one disk alone, so both disks keep what they kept, or both keep that with the note
pub kept_or : (n : Note) (k : DispatcherKept) (c : List ℕ × List ℕ) → offsets.KeepsOr k.offset (land_dispatcher n k).offset c.0 → pending.KeepsOr k.pending (land_dispatcher n k).pending c.1 → OnDisks k c ⊎ OnDisks (land_dispatcher n k) c
kept_or (note.Advance e) k c o p =
    let same : pending.Keeps k.pending c.1 = ⊎_elim (λ h. h) (λ h. h) p in
    ⊎_elim (λ old. inl (old, same)) (λ new. inr (new, same)) o
kept_or _ k c o p =
    let same : offsets.Keeps k.offset c.0 = ⊎_elim (λ h. h) (λ h. h) o in
    ⊎_elim (λ old. inl (same, old)) (λ new. inr (same, new)) p

module _ {D : Type 0} {d : disk.Ghosts D} where
  abbrev pub kept : Journals D d → DispatcherKept
  kept j = kept_as j.offset.value.offset j.retry.value.pending.keys

  abbrev pub are_ready : Journals D d → Bool
  are_ready j = both_ready j.offset.journal.state j.retry.journal.state

  -- ---- both disks, that of the offset first

  abbrev pub Image : Journals D d → List ℕ × List ℕ → Type 0
  Image j c = d.image j.offset.journal.disk c.0 × d.image j.retry.journal.disk c.1

  abbrev pub Since : (old new : Journals D d) → List ℕ × List ℕ → Type 0
  Since old new c = d.since old.offset.journal.disk new.offset.journal.disk c.0 × d.since old.retry.journal.disk new.retry.journal.disk c.1

  abbrev pub Grows : (old new : Journals D d) → Type 0
  Grows old new = ((c : List ℕ) → d.image new.offset.journal.disk c → Continues (d.image old.offset.journal.disk) c) × ((c : List ℕ) → d.image new.retry.journal.disk c → Continues (d.image old.retry.journal.disk) c)

  abbrev pub faults : Journals D d → ℕ
  faults j = d.faults j.offset.journal.disk + d.faults j.retry.journal.disk

  abbrev pub disk_faults : Journals D d → NodeDisk → ℕ
  disk_faults j = of_two (d.faults j.offset.journal.disk) (d.faults j.retry.journal.disk)

  abbrev pub StopsLeft : Journals D d → ℕ → Type 0
  StopsLeft j = OfBoth (AtMost (d.stops j.offset.journal.disk) (d.made j.offset.journal.disk)) (AtMost (d.stops j.retry.journal.disk) (d.made j.retry.journal.disk))

  abbrev pub Meets : Bool → (old new : Journals D d) → Type 0
  Meets met old new = MeetsStops met (StopsLeft old) (StopsLeft new) (faults old) (faults new)

  -- at each moment the one disk's image has P, and the other's Q
  abbrev pub Moments : (old new : Journals D d) → (P Q : List ℕ → Type 0) → Type 0
  Moments old new P Q = Throughout d.image d.since old.offset.journal.disk new.offset.journal.disk P × Throughout d.image d.since old.retry.journal.disk new.retry.journal.disk Q

  -- ---- records

  -- both are ready, and hold this
  pub record Holds (j : Journals D d) (k : Numbered DispatcherKept) : Type 0 where
    pub ready : are_ready j ≡ true
    pub is : kept j ≡ k.disk

  -- there is room for the note on its disk, and a place for a parked position
  abbrev pub HasRoomFor : Journals D d → DispatchNote → Type 0
  HasRoomFor j (Advance e) = HasRoom (d.calls_left j.offset.journal.disk) (d.bytes_left j.offset.journal.disk) 9
  HasRoomFor j (Park p) = HasRoom (d.calls_left j.retry.journal.disk) (d.bytes_left j.retry.journal.disk) 9 × (0 < spare j.retry.value.pending)
  HasRoomFor j (Settle p) = HasRoom (d.calls_left j.retry.journal.disk) (d.bytes_left j.retry.journal.disk) 9

  -- the note can be written
  pub record MayWrite (j : Journals D d) (n : DispatchNote) : Type 0 where
    pub ready : are_ready j ≡ true
    pub takes : takes_note (kept j) (told n) ≡ true
    pub room : HasRoomFor j n

  -- nothing but room was made
  pub record IsCalm (old new : Journals D d) : Type 0 where
    pub ready : are_ready new ≡ are_ready old
    pub same : kept new ≡ kept old
    pub moments : Moments old new (d.image old.offset.journal.disk) (d.image old.retry.journal.disk)

  -- at each moment each disk kept what it kept, or that with the note
  pub record IsWritten (old new : Journals D d) (n : Note) : Type 0 where
    pub moments : Moments old new (offsets.KeepsOr (kept old).offset (land_dispatcher n (kept old)).offset) (pending.KeepsOr (kept old).pending (land_dispatcher n (kept old)).pending)
    pub grows : Grows old new

  -- the note of the append that failed: each image keeps what k says, or that with the note
  pub record Doubts (j : Journals D d) (k with : Numbered DispatcherKept) : Type 0 where
    pub last : DispatchNote
    pub in_doubt : j.in_doubt ≡ Some last
    pub takes : takes_note k.disk (told last) ≡ true
    pub with_is : with ≡ record { number = k.number; disk = land_dispatcher (told last) k.disk }
    pub offset : (c : List ℕ) → d.image j.offset.journal.disk c → offsets.KeepsOr k.disk.offset (land_dispatcher (told last) k.disk).offset c
    pub pending : (c : List ℕ) → d.image j.retry.journal.disk c → pending.KeepsOr k.disk.pending (land_dispatcher (told last) k.disk).pending c

  -- the disks were opened, and the note in doubt is the same
  pub record IsOpenedAgain (old new : Journals D d) : Type 0 where
    pub in_doubt : new.in_doubt ≡ old.in_doubt
    pub moments : Moments old new (IsOpened (d.image old.offset.journal.disk)) (IsOpened (d.image old.retry.journal.disk))
    pub grows : Grows old new

  -- what was read is what a stop left
  abbrev pub IsFound : (old new : Journals D d) → Type 0
  IsFound old new = offsets.IsLeft (d.image old.offset.journal.disk) (kept new).offset × pending.IsLeft (d.image old.retry.journal.disk) (kept new).pending

  -- ---- laws

  pub ready_states : (j : Journals D d) → are_ready j ≡ true → (j.offset.journal.state ≡ Ready) × (j.retry.journal.state ≡ Ready)
  ready_states j h = both j.offset.journal.state j.retry.journal.state h
    where
      both : (a b : _) → both_ready a b ≡ true → (a ≡ Ready) × (b ≡ Ready)
      both Ready Ready h = (refl, refl)
      both _ _ h = absurd (false≢true h)

  -- whatever a stop leaves of journals that hold k keeps it
  pub held_images : IsTrue d.tells → (j : Journals D d) (k : Numbered DispatcherKept) → Holds j k → (c : List ℕ × List ℕ) → Image j c → OnDisks k.disk c
  held_images tells j k h c here =
      let ready = ready_states j h.ready in
      subst (λ (x : DispatcherKept). OnDisks x c) h.is (j.offset.durable tells ready.0 c.0 here.0, j.retry.durable tells ready.1 c.1 here.1)

  -- and in doubt it keeps k, or that with the note
  pub doubted_images : (j : Journals D d) (k with : Numbered DispatcherKept) → Doubts j k with → (c : List ℕ × List ℕ) → Image j c → OnDisks k.disk c ⊎ OnDisks with.disk c
  doubted_images j k with h c here =
      subst (λ (x : Numbered DispatcherKept). OnDisks k.disk c ⊎ OnDisks x.disk c) (sym h.with_is) (kept_or (told h.last) k.disk c (h.offset c.0 here.0) (h.pending c.1 here.1))

  -- where no call is made
  pub calm_still : ((x : D) (c : List ℕ) → d.since x x c → d.image x c) → (j : Journals D d) → IsCalm j j
  calm_still starts j = record { ready = refl; same = refl; moments = (still j.offset.journal.disk, still j.retry.journal.disk) }
    where
      still : (x : D) → Throughout d.image d.since x x (d.image x)
      still x = record { each = starts x; now = λ c here. here; before = λ s c left. inl left }

  -- room changes nothing of what is kept
  pub calm_stays : IsTrue d.tells → (old new : Journals D d) (k : Numbered DispatcherKept) → IsCalm old new → Holds old k → Holds new k × ((c : List ℕ × List ℕ) → Since old new c → OnDisks k.disk c) × Grows old new
  calm_stays tells old new k calm h = (
    record { ready = calm.ready ∙ h.ready; is = calm.same ∙ h.is },
    λ c left. held_images tells old k h c (calm.moments.0.each c.0 left.0, calm.moments.1.each c.1 left.1),
    (λ c here. continues_same (d.image old.offset.journal.disk) c (calm.moments.0.now c here), λ c here. continues_same (d.image old.retry.journal.disk) c (calm.moments.1.now c here)),
  )
