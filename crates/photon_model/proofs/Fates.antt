-- What becomes of a drawn token while its joiner doesn't stop: its join is in flight, or has ended.
use Rattle.std.proofs.Common.{◌≡◌, ◌≢◌, ◌⊎◌, inl, inr, ⊎_elim, ℕ, Bool, true, false, ◌==◌, List, ◌++◌, Some, None, refl, sym, ◌∙◌, subst, arith, Option}
use Rattle.std.proofs.lemmas.Bool.{cond-true, eq-eqb}
use Rattle.photon_model.proofs.Words.{EventId, Token, Insert, Mem, Begins, set_at, Answer, Granted, Duplicate, TooOld, IsGranted, Expired, Setting, Checked, IsJoiner, Packet, Node, Joiner, PairRec, Input, Note, Out, land, JoinerKept, JoinerLive, Flight, land_joiner, insert_of, is_for, landed, answers, joiner_turn, mem_left, mem_right, mem_split, at_set, clash, each_at, bound_stays, granted_stays, Known, values_of, HoldsOfReply, HoldsOfInput, IfOpen, known, WorldHolds, World, Begin, End, ended, joiner_row, after, Grows, IsFlying, IsResolved, IsDrawing, JoinerKeeps, decided_in, Cell}
use Rattle.photon_model.proofs.Growth.{begins_self, written_lasts}
use Rattle.photon_model.proofs.JoinerRows.{landed_or, every_row}
use Rattle.photon_model.proofs.Joining.{for_means}
use Rattle.photon_model.proofs.Lifting.{input_holds}

-- each drawn token is an old one, or in flight, or its join has ended
abbrev pub Fates : Setting → List Insert → World → List Insert → Type 0
Fates g old w drawn = (x : Insert) → Mem x drawn → (Mem x old ⊎ IsFlying (w.joiners x.token.joiner).live x) ⊎ IsResolved g (known g w drawn) x

resolved_lasts : (g : Setting) (a b : Known) → Grows a b → (x : Insert) → IsResolved g a x → IsResolved g b x
resolved_lasts g a b up x (inl (inl h)) = inl (inl (written_lasts g a b up x.id h))
resolved_lasts g a b up x (inl (inr (t, ne, h))) = inl (inr (t, ne, granted_stays _ _ x.id t (up.values _) h))
resolved_lasts g a b up x (inr h) = inr (let q = bound_stays (values_of g a x.id) (values_of g b x.id) (up.values _) in omega arith)

pub fates_decided : (g : Setting) (old : List Insert) (w : World) (drawn : List Insert) (v : World) → (v.joiners ≡ w.joiners) → ((s : ℕ) → Begins (decided_in g w s) (decided_in g v s)) → Fates g old w drawn → Fates g old v drawn
fates_decided g old w drawn v same grow f x m =
    ⊎_elim
    (λ h. inl (⊎_elim (λ a. inl a) (λ a. inr (subst (λ (j : ℕ → Cell JoinerKept JoinerLive). IsFlying (j x.token.joiner).live x) (sym same) a)) h))
    (λ h. inr (resolved_lasts g (known g w drawn) (known g v drawn) (record { values = grow; pairs = λ j p k. subst (λ (c : ℕ → Cell JoinerKept JoinerLive). Mem p (c j).kept.pairs) (sym same) k; drawn = λ y k. k }) x h))
    (f x m)

pub fates_begun : (g : Setting) (old : List Insert) (w : World) (drawn : List Insert) (j : ℕ) (i : Input) → Fates g old w drawn → Fates g old (after g w (Begin (Joiner j) i)) drawn
fates_begun g old w drawn j i f x m = grind arith

-- a flight stays, or its join ends
module _ (g : Setting) (n b : Known) (j : ℕ) (is_joiner : IsJoiner g j) (k : JoinerKept) (l : JoinerLive) (up : Grows n b) (f : Flight) (here : Mem f l.flight) where
  abbrev Fate : Out JoinerLive → Type 0
  Fate o = ((p : PairRec) → Mem p (land land_joiner o.note k).pairs → Mem p (b.pairs j)) → IsFlying (Some o.live) (insert_of f) ⊎ IsResolved g b (insert_of f)

  stays : IsFlying (Some l) (insert_of f) ⊎ IsResolved g b (insert_of f)
  stays = inl (f, here, refl)

  -- f's own reply ends its join
  replies : (x : Insert) (y : Flight) → is_for x y ≡ true → (a : Answer) → HoldsOfReply g n x a → is_for x f ≡ true → ((p : PairRec) → Mem p (land land_joiner (answers g j k l x y a).note k).pairs → Mem p (b.pairs j)) → IsResolved g b (insert_of f)
  replies x y is_y Granted h is_f more = inl (inl (j, record { click = y.click; query = y.query; token = y.token }, is_joiner, more _ (mem_right _ k.pairs _ (inl refl)), (for_means x y is_y).0 ∙ sym (for_means x f is_f).0))
  replies x y is_y (Duplicate t) h is_f more =
      let e = for_means x f is_f in
      inl (inr (t, subst (λ (z : Token). t ≢ z) (sym e.1) h.0, granted_stays _ _ f.click.id t (up.values _) (subst (λ (z : EventId). IsGranted (values_of g n z) z t) (sym e.0) h.1)))
  replies x y is_y (TooOld c) h is_f more =
      let e = for_means x f is_f in
      inr (subst (λ (z : EventId). Expired (values_of g b z) z) (sym e.0) (let p = h.0 in let q = h.1 in let r = bound_stays (values_of g n x.id) (values_of g b x.id) (up.values _) in omega arith))

  answer_fate : (x : Insert) (y : Flight) → is_for x y ≡ true → (a : Answer) → HoldsOfReply g n x a → Fate (answers g j k l x y a)
  answer_fate x y is_y a h more = go (is_for x f) refl
    where
      left : (a : Answer) → Mem f (landed l.flight x) → IsFlying (Some (answers g j k l x y a).live) (insert_of f)
      left a m = grind arith

      go : (t : Bool) → is_for x f ≡ t → IsFlying (Some (answers g j k l x y a).live) (insert_of f) ⊎ IsResolved g b (insert_of f)
      go true e = inr (replies x y is_y a h e more)
      go false e = inl (left a (⊎_elim (λ m. m) (λ t. clash (is_for x f) t e) (landed_or l.flight x f here)))

  turn_fate : (i : Input) → HoldsOfInput g n i → Fate (joiner_turn g j k l i)
  turn_fate =
      every_row g j k l (λ i o. HoldsOfInput g n i → Fate o)
      (record {
        idles = λ i h more. stays;
        ticks = λ h more. stays;
        begins = λ from p x q free e h more. inl (f, mem_left f l.flight _ here, refl);
        misses = λ from p x e h more. stays;
        is_busy = λ from p x h more. stays;
        is_answered = λ from x a y m is h. answer_fate x y is a h;
      })

module _ (g : Setting) (c : Checked g) (old : List Insert) (w : World) (drawn : List Insert) (holds : WorldHolds g w drawn) (j : ℕ) (is_joiner : IsJoiner g j) (made : Option Note) (ps : List (Node × Packet)) (kept : ℕ) where
  abbrev out : Out JoinerLive
  out = joiner_row g j (w.joiners j)

  abbrev cell : Cell JoinerKept JoinerLive
  cell = ended land_joiner (w.joiners j) out.note out.live

  module _ (keeps : JoinerKeeps g (known g w drawn) j (w.joiners j).kept out) where
    abbrev later_world : World
    later_world = after g w (End (Joiner j) out.note ps kept)

    abbrev later_known : Known
    later_known = known g later_world (keeps.new ++ drawn)

    up : Grows (known g w drawn) later_known
    up = record { values = λ s. begins_self ((known g w drawn).values s); pairs = at_set (λ t (d : Cell JoinerKept JoinerLive). (p : PairRec) → Mem p (w.joiners t).kept.pairs → Mem p d.kept.pairs) w.joiners j cell keeps.more (λ t p q. q); drawn = λ x m. mem_right x keeps.new drawn m }

    at_j : (P : Cell JoinerKept JoinerLive → Type 0) → P cell → P (set_at w.joiners j cell j)
    at_j P h = subst P (sym (cond-true (j == j) cell (w.joiners j) (eq-eqb j j refl))) h

    row_fate : (x : Insert) → IsFlying (w.joiners j).live x → IsFlying (Some out.live) x ⊎ IsResolved g later_known x
    row_fate x = up_or_down (w.joiners j).live (w.joiners j).opened (holds.joiners j is_joiner).opened (λ p m. at_j (λ (d : Cell JoinerKept JoinerLive). Mem p d.kept.pairs) m)
      where
        up_or_down : (l : Option JoinerLive) (o : Option Input) → IfOpen w.sent (Joiner j) o → ((p : PairRec) → Mem p (land land_joiner (joiner_row g j (record { kept = (w.joiners j).kept; live = l; opened = o })).note (w.joiners j).kept).pairs → Mem p (later_known.pairs j)) →
            IsFlying l x → IsFlying (Some (joiner_row g j (record { kept = (w.joiners j).kept; live = l; opened = o })).live) x ⊎ IsResolved g later_known x
        up_or_down None o i more h = absurd h
        up_or_down (Some l) None i more (f, m, e) = inl (f, m, e)
        up_or_down (Some l) (Some i) s more (f, m, e) =
            subst (λ (y : Insert). IsFlying (Some (joiner_turn g j (w.joiners j).kept l i).live) y ⊎ IsResolved g later_known y) e
            (turn_fate g (known g w drawn) later_known j is_joiner (w.joiners j).kept l up f m i (input_holds g w drawn holds (Joiner j) i s) more)

    ended_fates : Fates g old w drawn → Fates g old later_world (keeps.new ++ drawn)
    ended_fates t x m = ⊎_elim (λ q. inl (inr (new_one q))) (λ q. old_one (t x q)) (mem_split x keeps.new drawn m)
      where
        new_one : Mem x keeps.new → IsFlying (set_at w.joiners j cell x.token.joiner).live x
        new_one q = subst (λ i. IsFlying (set_at w.joiners j cell i).live x) (sym (each_at (IsDrawing g (known g w drawn) j (land land_joiner out.note (w.joiners j).kept).epoch) keeps.new keeps.drawing x q).joiner) (at_j (λ (d : Cell JoinerKept JoinerLive). IsFlying d.live x) (keeps.flying x q))

        flies : IsFlying (w.joiners x.token.joiner).live x → IsFlying (set_at w.joiners j cell x.token.joiner).live x ⊎ IsResolved g later_known x
        flies = at_set (λ i (d : Cell JoinerKept JoinerLive). IsFlying (w.joiners i).live x → IsFlying d.live x ⊎ IsResolved g later_known x) w.joiners j cell (row_fate x) (λ i q. inl q) x.token.joiner

        old_one : (Mem x old ⊎ IsFlying (w.joiners x.token.joiner).live x) ⊎ IsResolved g (known g w drawn) x → (Mem x old ⊎ IsFlying (set_at w.joiners j cell x.token.joiner).live x) ⊎ IsResolved g later_known x
        old_one (inl (inl h)) = inl (inl h)
        old_one (inl (inr h)) = ⊎_elim (λ q. inl (inr q)) (λ q. inr q) (flies h)
        old_one (inr h) = inr (resolved_lasts g (known g w drawn) later_known up x h)

pub fates_ended : (g : Setting) (c : Checked g) (old : List Insert) (w : World) (drawn : List Insert) (holds : WorldHolds g w drawn) (j : ℕ) → IsJoiner g j → (made : Option Note) (ps : List (Node × Packet)) (kept : ℕ) (keeps : JoinerKeeps g (known g w drawn) j (w.joiners j).kept (joiner_row g j (w.joiners j))) → made ≡ (joiner_row g j (w.joiners j)).note → Fates g old w drawn → Fates g old (after g w (End (Joiner j) made ps kept)) (keeps.new ++ drawn)
fates_ended g c old w drawn holds j is made ps kept keeps e t = subst (λ (q : Option Note). Fates g old (after g w (End (Joiner j) q ps kept)) (keeps.new ++ drawn)) (sym e) (ended_fates g c old w drawn holds j is made ps kept keeps t)
