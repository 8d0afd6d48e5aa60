-- What a joiner's disks hold after a stop.
use Rattle.std.proofs.Common.{◌≡◌, ◌⊎◌, inl, inr, ⊎_elim, ℕ, ◌+◌, ◌-◌, ◌^◌, ◌≤◌, Bool, true, false, List, [], ◌∷◌, length, map, refl, sym, ap, ◌∙◌, subst, arith, length-append, if◌then◌else◌, All, IsTrue, Result}
use Rattle.std.proofs.lemmas.Bool.Decides.{nat_tests}
use Rattle.std.proofs.lemmas.List.Elements.{All-head, All-tail}
use Rattle.joiner_node.proofs.Words.{Disks, Doubts, EpochOr, Holds, IsUndamaged, JoinerKept, JoinerNote, Numbered, OnDisks, PairsOr, counted, first_meets, has_more, image_of_epochs, image_of_log, note_of, on_either, pair_record, second_meets, spells, takes_note, then_more, with_note, gate_rule, never_damaged, PairRec, IsPair, MeetsBoth}
use Rattle.outside.specs.Plans.{MeetsPlan}
use Rattle.outside.specs.declared.disk.Disk as disk
use Rattle.gate_journal.specs.Opening.{IsOpened}
use Rattle.gate_journal.specs.declared.reading.JournalFault.{JournalFault}
use Rattle.gate_journal.specs.declared.reading.JournalFault.TheVariants.{Damaged}
use Rattle.epoch_journal.specs.Epochs as epochs
use Rattle.output_log.specs.Pairs as pairs
use Rattle.joiner_core.specs.declared.turn.JoinerNote.TheVariants as notes

-- ---- what is read

pub epoch_left : (k m : JoinerKept) (image : List ℕ → Type 0) (e : ℕ) → ((c : List ℕ) → image c → EpochOr k m c) → epochs.IsLeft image e → (e ≡ k.epoch) ⊎ (e ≡ m.epoch)
epoch_left k m image e or (c, here, keeps) = grind arith

abbrev pub Apart : Type 0
Apart = (p q : PairRec) → IsPair p → IsPair q → pair_record p ≡ pair_record q → p ≡ q

abbrev head_of : List (List ℕ) → List ℕ
head_of [] = []
head_of (b ∷ bs) = b

abbrev tail_of : List (List ℕ) → List (List ℕ)
tail_of [] = []
tail_of (b ∷ bs) = bs

same_pairs : Apart → (ps qs : List PairRec) → All IsPair ps → All IsPair qs → map pair_record ps ≡ map pair_record qs → ps ≡ qs
same_pairs apart [] [] all each e = refl
same_pairs apart (p ∷ ps) (q ∷ qs) all each e =
    ap (λ (x : PairRec). x ∷ ps) (apart p q (All-head IsPair p ps all) (All-head IsPair q qs each) (ap head_of e))
    ∙ ap (λ (xs : List PairRec). q ∷ xs) (same_pairs apart ps qs (All-tail IsPair p ps all) (All-tail IsPair q qs each) (ap tail_of e))
same_pairs apart _ _ all each e = absurd (cc e)

one_list : Apart → (ps qs : List PairRec) (c : List ℕ) → pairs.Keeps ps c → pairs.Keeps qs c → ps ≡ qs
one_list apart ps qs c p q = grind (arith, same_pairs)

pub pairs_left : Apart → (k m : JoinerKept) (image : List ℕ → Type 0) (ps : List PairRec) → ((c : List ℕ) → image c → PairsOr k m c) → pairs.IsLeft image ps → (ps ≡ k.pairs) ⊎ (ps ≡ m.pairs)
pairs_left apart k m image ps or (c, here, keeps) = ⊎_elim (λ old. inl (one_list apart ps k.pairs c keeps old)) (λ new. inr (one_list apart ps m.pairs c keeps new)) (or c here)

-- what was opened has what was there
pub pairs_opened : (k m : JoinerKept) (image : List ℕ → Type 0) → ((c : List ℕ) → image c → PairsOr k m c) → (c : List ℕ) → IsOpened image c → PairsOr k m c
pairs_opened k m image or c (b, here, same) = subst (λ (r : Result (List (List ℕ)) ℕ). spells k.pairs r ⊎ spells m.pairs r) (sym same) (or b here)

-- ---- whether the note landed

-- the journals read as these records, and their numbers tell whether there is more than before
record Reads (e before written had : ℕ) (ps : List PairRec) (landed : Bool) (k : JoinerKept) : Type 0 where
  pub epoch_is : e ≡ k.epoch
  pub pairs_are : ps ≡ k.pairs
  pub told : has_more e before written had ≡ landed

one_more : (e before written had : ℕ) → (written ≡ had → ⊥) → has_more e before written had ≡ true
one_more e before written had more = grind (arith, nat_tests)

module _ (e written : ℕ) (ps : List PairRec) (k : Numbered JoinerKept) (many : written ≡ length ps) (short : length ps ≤ 2 ^ 64 - 1) where
  old_reads : e ≡ k.disk.epoch → ps ≡ k.disk.pairs → Reads e k.disk.epoch written (counted k.disk.pairs) ps false k.disk
  old_reads e_is ps_are = grind (arith, nat_tests)

  reads_either : (n : JoinerNote) → takes_note k.disk.epoch (note_of n) ≡ true → (e ≡ k.disk.epoch) ⊎ (e ≡ (with_note n k).disk.epoch) → (ps ≡ k.disk.pairs) ⊎ (ps ≡ (with_note n k).disk.pairs)
      → Reads e k.disk.epoch written (counted k.disk.pairs) ps false k.disk ⊎ Reads e k.disk.epoch written (counted k.disk.pairs) ps true (with_note n k).disk
  reads_either (notes.Epoch x) next epoch pair = grind (arith, old_reads, nat_tests)
  reads_either (notes.Pair p) next epoch pair =
      let same : e ≡ k.disk.epoch = ⊎_elim (λ h. h) (λ h. h) epoch in
      ⊎_elim (λ old. inl (old_reads same old))
      (λ new.
      let more : length ps ≡ length k.disk.pairs + 1 = ap length new ∙ length-append k.disk.pairs (p ∷ []) in
      inr (record { epoch_is = same; pairs_are = new; told = one_more e k.disk.epoch written (counted k.disk.pairs) (λ n_is. omega (arith, n_is, more, many, short)) }))
      pair

module _ {D : Type 0} {d : disk.Ghosts D} where
  -- both journals are read, and each image has what they have
  pub holds_read : (r : Disks D d) (ps : List PairRec) (k : Numbered JoinerKept) → r.written ≡ length ps → length ps ≤ 2 ^ 64 - 1 → r.epochs.value.epoch ≡ k.disk.epoch → ps ≡ k.disk.pairs
      → ((c : List ℕ) → image_of_epochs r c → epochs.Keeps r.epochs.value.epoch c) → ((c : List ℕ) → image_of_log r c → pairs.Keeps ps c) → Holds r k
  holds_read r ps k many short epoch_is pairs_are epoch_durable kept = grind arith

  -- the note landed, or nothing did
  pub found : (old new : Disks D d) (k with : Numbered JoinerKept) (doubt : Doubts old k with) (ps : List PairRec) (e before : ℕ) (told : Bool) → e ≡ new.epochs.value.epoch → before ≡ old.epochs.value.epoch → told ≡ has_more e before new.written old.written → new.written ≡ length ps → length ps ≤ 2 ^ 64 - 1
      → epochs.IsLeft (image_of_epochs old) new.epochs.value.epoch → Apart → pairs.IsLeft (image_of_log old) ps → ((c : List ℕ) → image_of_epochs new c → epochs.Keeps new.epochs.value.epoch c) → ((c : List ℕ) → image_of_log new c → pairs.Keeps ps c)
      → (e ≡ (if told then with else k).disk.epoch) × Holds new (if told then with else k)
  found old new k with doubt ps e before told is was tells many short epoch apart pair durable kept =
      let m = with_note doubt.note k in
      let more : told ≡ has_more e k.disk.epoch new.written (counted k.disk.pairs) = tells ∙ ap (λ (n : ℕ). has_more e n new.written old.written) (was ∙ doubt.reached.epoch) ∙ ap (has_more e k.disk.epoch new.written) doubt.reached.written in
      let left = subst (epochs.IsLeft (image_of_epochs old)) (sym is) epoch in
      subst (λ (x : Numbered JoinerKept). (e ≡ (if told then x else k).disk.epoch) × Holds new (if told then x else k)) (sym doubt.with_is)
      (⊎_elim
      (λ same. subst (λ (b : Bool). (e ≡ (if b then m else k).disk.epoch) × Holds new (if b then m else k)) (sym (more ∙ same.told)) (same.epoch_is, holds_read new ps k many short (sym is ∙ same.epoch_is) same.pairs_are durable kept))
      (λ next. subst (λ (b : Bool). (e ≡ (if b then m else k).disk.epoch) × Holds new (if b then m else k)) (sym (more ∙ next.told)) (next.epoch_is, holds_read new ps m many short (sym is ∙ next.epoch_is) next.pairs_are durable kept))
      (reads_either e new.written ps k many short doubt.note doubt.next (epoch_left k.disk m.disk _ e doubt.epochs left) (pairs_left apart k.disk m.disk _ ps doubt.pairs pair)))

  -- at each moment each disk has what it may have had
  pub doubt_left : (old : Disks D d) (epochs log : D) (k with : Numbered JoinerKept) (doubt : Doubts old k with) → ((c : List ℕ) → d.since old.epochs.journal.disk epochs c → EpochOr k.disk (with_note doubt.note k).disk c)
      → ((c : List ℕ) → d.since old.log.disk log c → PairsOr k.disk (with_note doubt.note k).disk c) → (c : List ℕ × List ℕ) → d.since old.epochs.journal.disk epochs c.0 × d.since old.log.disk log c.1 → OnDisks k c ⊎ OnDisks with c
  doubt_left old epochs log k with doubt epoch pair c left = subst (λ (x : Numbered JoinerKept). OnDisks k c ⊎ OnDisks x c) (sym doubt.with_is) (on_either doubt.note k c (epoch c.0 left.0) (pair c.1 left.1))

-- the log was opened, and then the epochs
pub log_first : {D : Type 0} (stops : D → ℕ → Bool) (made faults : D → ℕ) (met told : Bool) (epochs epochs' log log' : D) → met ≡ told → MeetsPlan stops made faults 3 false log log' → MeetsPlan stops made faults 3 met epochs epochs' → MeetsBoth stops made faults told epochs log epochs' log'
log_first stops made faults met told epochs epochs' log log' is first next =
    then_more told _ _ _ _ _ _ (second_meets stops made faults 3 false false epochs epochs log log' refl refl first) (first_meets stops made faults 3 met told epochs epochs' log' log' is refl next)

-- ---- a disk of which each image has such records isn't damaged

pub pairs_undamaged : (k m : JoinerKept) (image : List ℕ → Type 0) (tells : Bool) (old new : ℕ) (fault : JournalFault) → IsTrue tells → ((c : List ℕ) → image c → PairsOr k m c) → pairs.IsRefusedAgain tells image old new fault → IsUndamaged fault
pairs_undamaged k m image tells old new (Damaged at) told or err =
    let bad = err told in
    ⊎_elim (λ keeps. never_damaged IsPair pair_record k.pairs (gate_rule bad.0) at keeps bad.2) (λ keeps. never_damaged IsPair pair_record m.pairs (gate_rule bad.0) at keeps bad.2) (or bad.0 bad.1)
pairs_undamaged k m image tells old new _ told or err = tt
