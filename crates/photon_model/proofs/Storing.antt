-- The empty store, longer logs, records that stay.
use Rattle.std.proofs.Common.{◌≡◌, inl, inr, ⊎_elim, ℕ, ◌≤◌, Bool, List, [], ◌∷◌, ◌++◌, Some, sym, subst, arith, refl, find, Option}
use Rattle.photon_model.proofs.Words.{Insert, Query, ClickLine, end_from, Follow, IsBoundary, Mem, Begins, Setting, Checked, PairRec, BallotNote, none_some, mem_left, mem_split, each_more, Known, known_of, DispatcherSound, PairSound, DrawnSound, InsertsOf, Sound, SoundStore, accepted_inserts, World, Entry, Disks, after, world_after, Store, WholeSound, empty_disks, ReadIsChecked, IsLonger, set_at, Replica, Joiner, Note, Output, Voted, land, JoinerKept, land_joiner, ReplicaKept, land_replica, at_set, Begin, End, Stop, Cell}
use Rattle.turn_defs.specs.declared.config.Config.{Config}
use Rattle.photon_model.proofs.Journals.{journal_beyond, votes_of}
use Rattle.log_records.proofs.Places.{queries_begin, lines_begin, lines_follow}
use Rattle.photon_model.proofs.Growth.{begins_self, begins_again}

pub empty_sound : (g : Setting) → Sound g empty_disks []
empty_sound g = grind (arith, votes_of, journal_beyond)

-- ---- longer logs

-- both logs with more lines at their ends; all of the config but the topology may be other
abbrev pub longer : Setting → List Query → List ClickLine → Config → Setting
longer g qs cs c = record { queries = g.queries ++ qs; clicks = g.clicks ++ cs; config = record c { joiners = g.config.joiners; table = g.config.table; replicas = g.config.replicas } }

find_front : {A : Type 0} (p : A → Bool) (xs ys : List A) (y : A) → find p xs ≡ Some y → find p (xs ++ ys) ≡ Some y
find_front p [] ys y e = none_some y e
find_front p (x ∷ xs) ys y e = grind (arith, find_front p xs ys y)

end_of : (ls : List ClickLine) (p : ℕ) (l : ClickLine) → Follow p ls → Mem l ls → l.end_ ≤ end_from p ls
end_of [] p l f m = absurd m
end_of (x ∷ ls) p l f (inl e) = subst (λ (y : ClickLine). y.end_ ≤ end_from x.end_ ls) e (after_start ls x.end_ f.2)
  where
    after_start : (ks : List ClickLine) (q : ℕ) → Follow q ks → q ≤ end_from q ks
    after_start [] q f = omega arith
    after_start (k ∷ ks) q f = let h = after_start ks k.end_ f.2 in let r = f.1 in omega arith
end_of (x ∷ ls) p l f (inr m) = end_of ls x.end_ l f.2 m

follow_front : (xs ys : List ClickLine) (p : ℕ) → Follow p (xs ++ ys) → Follow p xs × Follow (end_from p xs) ys
follow_front [] ys p f = (tt, f)
follow_front (x ∷ xs) ys p f = let r = follow_front xs ys x.end_ f.2 in ((f.0, f.1, r.0), r.1)

places_after : (ls : List ClickLine) (p : ℕ) (l : ClickLine) → Follow p ls → Mem l ls → p ≤ l.place
places_after ls p l f m = Rattle.log_records.proofs.LineOrder.places_from ls p l f m

module _ (g : Setting) (qs : List Query) (cs : List ClickLine) (config : Config) (c : Checked (longer g qs cs config)) (n : Known) where
  offset_within : (p : ℕ) → IsBoundary g.clicks p → p ≤ end_from 0 g.clicks
  offset_within p h = grind (arith, end_of, follow_front)

  dispatcher_longer : (k : Rattle.turn_defs.specs.Dispatcher.DispatcherKept) → DispatcherSound g n k → DispatcherSound (longer g qs cs config) n k
  dispatcher_longer k s =
      record {
        boundary = ⊎_elim (λ e. inl e) (λ (h : (l : ClickLine) × Mem l g.clicks × (l.end_ ≡ k.offset)). inr (h.0, mem_left h.0 g.clicks cs h.1, h.2)) s.boundary;
        starts = λ p h. let l = s.starts p h in (l.0, find_front _ g.clicks cs l.0 l.1);
        once = s.once;
        passed = λ l m lt. ⊎_elim (λ h. s.passed l h lt) (λ h. absurd (let q = offset_within k.offset s.boundary in let r = places_after cs (end_from 0 g.clicks) l (follow_front g.clicks cs 0 c.follow).1 h in omega arith)) (mem_split l g.clicks cs m);
      }

  pair_longer : (j e : ℕ) (p : PairRec) → PairSound g n j e p → PairSound (longer g qs cs config) n j e p
  pair_longer j e p s = grind (arith, find_front)

  drawn_longer : (epochs : ℕ → ℕ) → DrawnSound g n epochs → DrawnSound (longer g qs cs config) n epochs
  drawn_longer epochs s = record { joinable = λ x m. let h = s.joinable x m in (h.0, mem_left h.0 g.clicks cs h.1, h.2, (h.3.0, find_front _ g.queries qs h.3.0 h.3.1)); joiner = s.joiner; epoch = s.epoch; one_id = s.one_id }

  note_longer : (x : BallotNote) → InsertsOf g n x → InsertsOf (longer g qs cs config) n x
  note_longer x h = grind arith

pub sound_lasts : (g : Setting) (qs : List Query) (cs : List ClickLine) (config : Config) (d : Disks) (drawn : List Insert) → Checked (longer g qs cs config) → Sound g d drawn → Sound (longer g qs cs config) d drawn
sound_lasts g qs cs config d drawn c s =
    record {
      replicas = s.replicas;
      joiners = λ j i. record { pairs = each_more (PairSound g (known_of g d drawn) j (d.joiners j).epoch) (PairSound (longer g qs cs config) (known_of g d drawn) j (d.joiners j).epoch) (d.joiners j).pairs (pair_longer g qs cs config c (known_of g d drawn) j (d.joiners j).epoch) (s.joiners j i).pairs; once = (s.joiners j i).once };
      dispatchers = λ t lt. dispatcher_longer g qs cs config c (known_of g d drawn) (d.dispatchers t) (s.dispatchers t lt);
      drawing = drawn_longer g qs cs config c (known_of g d drawn) (λ j. (d.joiners j).epoch) s.drawing;
      inserts = λ r lt. each_more (InsertsOf g (known_of g d drawn)) (InsertsOf (longer g qs cs config) (known_of g d drawn)) (d.replicas r).notes (note_longer g qs cs config c (known_of g d drawn)) (s.inserts r lt);
    }

pub read_is_checked : ReadIsChecked
read_is_checked g query_log click_log over = let h = lines_follow click_log g.clicks over.clicks in record { follow = h.0; no_conflict = h.1 }

module _ (g h : Setting) (query_log click_log more_queries more_clicks : List ℕ) (l : IsLonger g h query_log click_log more_queries more_clicks) where
  more_records : Begins g.queries h.queries
  more_records = queries_begin query_log more_queries g.queries h.queries l.before.queries l.after.queries

  more_lines : Begins g.clicks h.clicks
  more_lines = lines_begin click_log more_clicks g.clicks h.clicks l.before.clicks l.after.clicks

  abbrev grown : Setting
  grown = longer g more_records.0 more_lines.0 h.config

  is_grown : grown ≡ h
  is_grown = λ i. record { queries = sym more_records.1 i; clicks = sym more_lines.1 i; config = record h.config { joiners = l.topology.joiners i; table = l.topology.table i; replicas = l.topology.replicas i } }

  grown_checked : Checked grown
  grown_checked = subst Checked (sym is_grown) (read_is_checked h (query_log ++ more_queries) (click_log ++ more_clicks) l.after)

  grown_store : (d : Disks) → SoundStore g d → SoundStore grown d
  grown_store d s = sound_lasts g more_records.0 more_lines.0 h.config d (accepted_inserts g d) grown_checked s

  pub longer_keeps_store : (d : Disks) → SoundStore g d → SoundStore h d
  longer_keeps_store d s = subst (λ (k : Setting). SoundStore k d) is_grown (grown_store d s)

  pub longer_keeps_whole : (s : Store) → WholeSound g s → WholeSound h s
  longer_keeps_whole s w = subst (λ (k : Setting). WholeSound k s) is_grown (record {
    records = grown_store s.disks w.records;
    topology = w.topology;
    blank = λ e. let b = w.blank e in record { offset = b.offset; pending = b.pending; server_epoch = b.server_epoch; notes = b.notes; joiner_epoch = b.joiner_epoch; pairs = b.pairs };
  })

-- ---- records that stay

pairs_land : (o : Option Note) (k : JoinerKept) → Begins k.pairs (land land_joiner o k).pairs
pairs_land (Some (Output p)) k = (p ∷ [], refl)
pairs_land _ k = begins_self k.pairs

notes_land : (o : Option Note) (k : ReplicaKept) → Begins k.notes (land land_replica o k).notes
notes_land (Some (Voted x)) k = (x ∷ [], refl)
notes_land _ k = begins_self k.notes

abbrev Stay : World → World → Type 0
Stay w v = ((j : ℕ) → Begins (w.joiners j).kept.pairs (v.joiners j).kept.pairs) × ((r : ℕ) → Begins (w.replicas r).kept.notes (v.replicas r).kept.notes)

-- where a cell is replaced by one whose records begin with the old ones
cells_stay : {K L A : Type 0} (part : K → List A) (f : ℕ → Cell K L) (n : ℕ) (c : Cell K L) → Begins (part (f n).kept) (part c.kept) → (m : ℕ) → Begins (part (f m).kept) (part (set_at f n c m).kept)
cells_stay part f n c b = at_set (λ m d. Begins (part (f m).kept) (part d.kept)) f n c b (λ m. begins_self (part (f m).kept))

one_stays : (g : Setting) (w : World) (e : Entry) → Stay w (after g w e)
one_stays g w (Begin (Replica r) i) = (λ j. begins_self _, cells_stay (λ (k : ReplicaKept). k.notes) w.replicas r _ (begins_self (w.replicas r).kept.notes))
one_stays g w (Begin (Joiner j) i) = (cells_stay (λ (k : JoinerKept). k.pairs) w.joiners j _ (begins_self (w.joiners j).kept.pairs), λ r. begins_self _)
one_stays g w (End (Replica r) o ps kept) = (λ j. begins_self _, cells_stay (λ (k : ReplicaKept). k.notes) w.replicas r _ (notes_land o (w.replicas r).kept))
one_stays g w (End (Joiner j) o ps kept) = (cells_stay (λ (k : JoinerKept). k.pairs) w.joiners j _ (pairs_land o (w.joiners j).kept), λ r. begins_self _)
one_stays g w (Stop (Replica r) o) = (λ j. begins_self _, cells_stay (λ (k : ReplicaKept). k.notes) w.replicas r _ (notes_land o (w.replicas r).kept))
one_stays g w (Stop (Joiner j) o) = (cells_stay (λ (k : JoinerKept). k.pairs) w.joiners j _ (pairs_land o (w.joiners j).kept), λ r. begins_self _)
one_stays g w _ = (λ j. begins_self _, λ r. begins_self _)

pub records_stay : (g : Setting) (w : World) (es : List Entry) → Stay w (world_after g w es)
records_stay g w [] = (λ j. begins_self _, λ r. begins_self _)
records_stay g w (e ∷ es) =
    let a = one_stays g w e in
    let b = records_stay g (after g w e) es in
    (λ j. begins_again _ _ _ (a.0 j) (b.0 j), λ r. begins_again _ _ _ (a.1 r) (b.1 r))
