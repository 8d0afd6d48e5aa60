-- What is sound is so by the records of the setting's nodes alone.
use Rattle.std.proofs.Common.{◌≡◌, ◌⊎◌, inl, inr, ℕ, ◌≤◌, List, sym, ◌∙◌, ap, subst, arith}
use Rattle.photon_model.proofs.Journals.{values_same}
use Rattle.site_laws.proofs.Words.{EventId, Insert, Batch, IsGranted, Registered, Expired, Mem, Each, each_more, JournalsAgree, PairRec, Dispatcher, Server, Replica, Joiner, Setting, shard, BallotNote, DispatcherKept, JoinerKept, ServerKept, ReplicaKept, journals, AreOwned, Disks, Known, IsWritten, IsSettled, DispatcherSound, PairSound, JoinerSound, DrawnSound, InsertsOf, known_of, Sound, inserts_of, accepted_inserts, SoundStore, IsBlank, decided, SameRecords, SameIsSound, SameIsWhole}

module _ (g : Setting) (d e : Disks) (same : SameRecords g d e) where
  journals_same : journals g.config.replicas d.replicas ≡ journals g.config.replicas e.replicas
  journals_same = values_same (λ k. (d.replicas k).notes) (λ k. (e.replicas k).notes) 0 g.config.replicas (λ k _ l. ap (λ (x : ReplicaKept). x.notes) (same (Replica k) (omega (arith, l))))

  module _ (drawn : List Insert) where
    abbrev before : Known
    before = known_of g d drawn

    abbrev after : Known
    after = known_of g e drawn

    values_are : before.values ≡ after.values
    values_are = ap (λ js. decided js) journals_same

    pair_same : (j kept : ℕ) (p : PairRec) → PairSound g before j kept p → PairSound g after j kept p
    pair_same j kept p x = record {
      own_query = x.own_query;
      joiner = x.joiner;
      epoch = x.epoch;
      granted = subst (λ (v : ℕ → List Batch). IsGranted (v (shard g p.click.id)) p.click.id p.token) values_are x.granted;
      drawn = x.drawn;
    }

    joiner_same : (j : ℕ) (k : JoinerKept) → JoinerSound g before j k → JoinerSound g after j k
    joiner_same j k x = record { pairs = each_more (PairSound g before j k.epoch) (PairSound g after j k.epoch) k.pairs (pair_same j k.epoch) x.pairs; once = x.once }

    written_same : (i : EventId) → IsWritten g before i → IsWritten g after i
    written_same i x = (x.0, x.1, x.2, subst (λ (k : JoinerKept). Mem x.1 k.pairs) (same (Joiner x.0) x.2) x.3, x.4)

    settled_same : (i : EventId) → IsSettled g before i → IsSettled g after i
    settled_same i (inl x) = inl (subst (λ (v : ℕ → List Batch). Registered (v (shard g i)) i ⊎ Expired (v (shard g i)) i) values_are x)
    settled_same i (inr x) = inr (written_same i x)

    dispatcher_same : (k : DispatcherKept) → DispatcherSound g before k → DispatcherSound g after k
    dispatcher_same k x = grind (arith, settled_same)

    drawing_same : DrawnSound g before (λ j. (d.joiners j).epoch) → DrawnSound g after (λ j. (e.joiners j).epoch)
    drawing_same x = record {
      joinable = x.joinable;
      joiner = x.joiner;
      epoch = λ i m. subst (λ (k : JoinerKept). i.token.epoch ≤ k.epoch) (same (Joiner i.token.joiner) (x.joiner i m)) (x.epoch i m);
      one_id = x.one_id;
    }

    note_same : (n : BallotNote) → InsertsOf g before n → InsertsOf g after n
    note_same n x = grind arith

    owned_same : AreOwned (journals g.config.replicas d.replicas) (λ s. (d.servers s).epoch) → AreOwned (journals g.config.replicas e.replicas) (λ s. (e.servers s).epoch)
    owned_same x at r v h =
        let old = subst (λ (js : List (List BallotNote)). AreOwned js (λ s. (d.servers s).epoch)) journals_same x at r v h in
        (old.0, subst (λ (k : ServerKept). v.ballot.epoch ≤ k.epoch) (same (Server v.ballot.site) old.0) old.1)

    sound_same : Sound g d drawn → Sound g e drawn
    sound_same x = record {
      replicas = record { agree = subst (λ (js : List (List BallotNote)). JournalsAgree js) journals_same x.replicas.agree; owned = owned_same x.replicas.owned };
      joiners = λ j is. subst (λ (k : JoinerKept). JoinerSound g after j k) (same (Joiner j) is) (joiner_same j (d.joiners j) (x.joiners j is));
      dispatchers = λ s is. subst (λ (k : DispatcherKept). DispatcherSound g after k) (same (Dispatcher s) is) (dispatcher_same (d.dispatchers s) (x.dispatchers s is));
      drawing = drawing_same x.drawing;
      inserts = λ r is. subst (λ (k : ReplicaKept). Each (InsertsOf g after) k.notes) (same (Replica r) is) (each_more (InsertsOf g before) (InsertsOf g after) (d.replicas r).notes note_same (x.inserts r is));
    }

  same_sound : SoundStore g d → SoundStore g e
  same_sound x = subst (λ (xs : List Insert). Sound g e xs) (ap (λ js. inserts_of js) journals_same) (sound_same (accepted_inserts g d) x)

  blank_same : IsBlank g d → IsBlank g e
  blank_same x = record {
    offset = λ s is. ap (λ (k : DispatcherKept). k.offset) (sym (same (Dispatcher s) is)) ∙ x.offset s is;
    pending = λ s is. ap (λ (k : DispatcherKept). k.pending) (sym (same (Dispatcher s) is)) ∙ x.pending s is;
    server_epoch = λ s is. ap (λ (k : ServerKept). k.epoch) (sym (same (Server s) is)) ∙ x.server_epoch s is;
    notes = λ r is. ap (λ (k : ReplicaKept). k.notes) (sym (same (Replica r) is)) ∙ x.notes r is;
    joiner_epoch = λ j is. ap (λ (k : JoinerKept). k.epoch) (sym (same (Joiner j) is)) ∙ x.joiner_epoch j is;
    pairs = λ j is. ap (λ (k : JoinerKept). k.pairs) (sym (same (Joiner j) is)) ∙ x.pairs j is;
  }

pub same_is_sound : SameIsSound
same_is_sound g d e same x = same_sound g d e same x

pub same_is_whole : SameIsWhole
same_is_whole g s t topology used same x = record {
  records = same_sound g s.disks t.disks same x.records;
  topology = λ is. sym topology ∙ x.topology (used ∙ is);
  blank = λ is. blank_same g s.disks t.disks same (x.blank (used ∙ is));
}
