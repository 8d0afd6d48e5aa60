-- Each entry of a run keeps all facts, and so they hold after every run.
use Rattle.std.proofs.Common.{◌≡◌, ◌≢◌, ◌⊎◌, inl, inr, ⊎_elim, ℕ, zero, suc, ◌+◌, ◌*◌, ◌<◌, ◌≤◌, true, List, [], ◌∷◌, ◌++◌, Some, None, refl, sym, ap, ◌∙◌, subst, arith, Option, slice_get, find}
use Rattle.std.proofs.lemmas.Bool.{cases_lt}
use Rattle.photon_model.proofs.Words.{ReplicaKept, EventId, Token, Insert, same_id, Query, ClickLine, at, end_from, Follow, first, Mem, Each, EachPair, set_at, IsGranted, Expired, Setting, first_joiner, Checked, IsJoiner, IsJoin, Dispatcher, Server, Replica, Joiner, PairRec, Input, Note, land, land_dispatcher, dispatcher_at_rest, JoinerLive, land_joiner, land_server, land_replica, each_at, some_same, none_some, at_own, within_end, one_granted, UpWith, Known, values_of, IsWritten, IsMissing, IsDrained, DispatcherSound, PairSound, InsertsOf, Sound, known, IfUp, WorldHolds, World, Entry, Begin, End, Stop, Disks, begun, ended, stopped, dispatcher_row, server_row, replica_row, joiner_row, sends, after, May, opening, extended, PaxosGives, NoJoinerStops}
use Rattle.photon_model.proofs.Growth.{joiner_kept_lasts, joiner_live_lasts}
use Rattle.photon_model.proofs.Joining.{grows_extended}
use Rattle.photon_model.proofs.Fates.{Fates, fates_decided, fates_begun, fates_ended}
use Rattle.photon_model.proofs.Showing.{found, not_found}
use Rattle.photon_model.proofs.Worlds.{landed_either}
use Rattle.photon_model.proofs.Lifting.{addressed_hold, dispatcher_replaced, server_replaced, replica_replaced, joiner_replaced, dispatcher_row_keeps, joiner_row_keeps, server_row_keeps, replica_row_keeps}
use Rattle.photon_model.specs.Headline.{PairAt}

module _ (g : Setting) (c : Checked g) (old : List Insert) (w : World) (drawn : List Insert) (holds : WorldHolds g w drawn) where
  abbrev pub Kept : Entry → Type 0
  Kept e = (d : List Insert) × WorldHolds g (after g w e) d × (Fates g old w drawn → NoJoinerStops (e ∷ []) → Fates g old (after g w e) d)

  -- a joiner's disks stay, and nothing is sent
  joiner_stays : (j : ℕ) (is : IsJoiner g j) (l : Option JoinerLive) (o : Option Input) → IfUp (λ _. l ≡ (w.joiners j).live) l → Rattle.photon_model.specs.Facts.IfOpen w.sent (Joiner j) o →
      WorldHolds g (record w { joiners = set_at w.joiners j (record { kept = (w.joiners j).kept; live = l; opened = o }) }) drawn
  joiner_stays j is l o same op =
      let f = holds.joiners j is in
      let up = grows_extended (known g w drawn) j (w.joiners j).kept.pairs (w.joiners j).kept.pairs [] refl (λ p m. m) in
      joiner_replaced g w drawn holds j is (record { kept = (w.joiners j).kept; live = l; opened = o }) [] [] (omega arith) (λ p m. m) (λ x y m. absurd m) tt
      (joiner_kept_lasts g (known g w drawn) (extended (known g w drawn) j (w.joiners j).kept.pairs []) up j (w.joiners j).kept f.kept)
      (live l same)
      op
      (λ x m. absurd m)
    where
      live : (l : Option JoinerLive) → IfUp (λ _. l ≡ (w.joiners j).live) l → IfUp (Rattle.photon_model.specs.Facts.JoinerHolds g (extended (known g w drawn) j (w.joiners j).kept.pairs []) j (w.joiners j).kept) l
      live None s = tt
      live (Some x) s =
          joiner_live_lasts g (known g w drawn) (extended (known g w drawn) j (w.joiners j).kept.pairs []) (grows_extended (known g w drawn) j (w.joiners j).kept.pairs (w.joiners j).kept.pairs [] refl (λ p m. m)) j (w.joiners j).kept x (λ y m e. m)
          (subst (IfUp (Rattle.photon_model.specs.Facts.JoinerHolds g (known g w drawn) j (w.joiners j).kept)) (sym s) (holds.joiners j is).live)

  always_same : (l : Option JoinerLive) → IfUp (λ _. l ≡ l) l
  always_same l = grind arith

  pub step : (e : Entry) → May g w e → PaxosGives g w e → Kept e
  step (Begin (Dispatcher s) i) m p = let f = holds.dispatchers s m.0 in (drawn, dispatcher_replaced g w drawn holds s (begun (w.dispatchers s) i) [] (record { kept = f.kept; live = f.live; opened = m.1.2 }) (λ x q. absurd q), λ t _. t)
  step (Begin (Server s) i) m p = let f = holds.servers s m.0 in (drawn, server_replaced g w drawn holds s (begun (w.servers s) i) [] (record { live = f.live; opened = m.1.2 }) (λ x q. absurd q), λ t _. t)
  step (Begin (Replica r) i) m p = let f = holds.replicas r m.0 in (drawn, replica_replaced g w drawn holds r (begun (w.replicas r) i) [] p.grows (record { kept = f.kept; opened = m.1.2 }) (λ x q. absurd q), λ t _. fates_decided g old w drawn (after g w (Begin (Replica r) i)) refl p.grows t)
  step (Begin (Joiner j) i) m p = (drawn, joiner_stays j m.0 (w.joiners j).live (Some i) (always_same (w.joiners j).live) m.1.2, λ t _. fates_begun g old w drawn j i t)
  step (End (Dispatcher s) made ps kept) m p =
      let k = dispatcher_row_keeps g w drawn holds c s m.0 in (
        drawn,
        subst (λ (q : Option Note). WorldHolds g (after g w (End (Dispatcher s) q ps kept)) drawn) (sym m.1.1)
            (dispatcher_replaced g w drawn holds s (ended land_dispatcher (w.dispatchers s) (dispatcher_row g s (w.dispatchers s)).note (dispatcher_row g s (w.dispatchers s)).live) (sends (Dispatcher s) ps) (record { kept = k.kept; live = k.live; opened = tt }) (addressed_hold g (known g w drawn) (Dispatcher s) (dispatcher_row g s (w.dispatchers s)).packets ps m.1.2 k.packets)),
        λ t _. t,
      )
  step (End (Server s) made ps kept) m p =
      let k = server_row_keeps g w drawn holds (λ l i t lt e o. p.chosen t l i lt e o) s m.0 in
      (drawn, server_replaced g w drawn holds s (ended land_server (w.servers s) made (server_row g s (w.servers s)).live) (sends (Server s) ps) (record { live = k.live; opened = tt }) (addressed_hold g (known g w drawn) (Server s) (server_row g s (w.servers s)).packets ps m.1.2 k.packets), λ t _. t)
  step (End (Replica r) made ps kept) m p =
      let k = replica_row_keeps g w drawn holds r m.0 in
      (drawn, replica_replaced g w drawn holds r (ended land_replica (w.replicas r) made (replica_row (w.replicas r)).live) (sends (Replica r) ps) p.grows (record { kept = subst (λ (q : Option Note). Each (InsertsOf g (known g w drawn)) (land land_replica q (w.replicas r).kept).notes) (sym m.1.1) k.kept; opened = tt }) (addressed_hold g (known g w drawn) (Replica r) (replica_row (w.replicas r)).packets ps m.1.2 k.packets), λ t _. fates_decided g old w drawn (after g w (End (Replica r) made ps kept)) refl p.grows t)
  step (End (Joiner j) made ps kept) m p =
      let k = joiner_row_keeps g w drawn holds c j m.0 in (
        k.new ++ drawn,
        subst (λ (q : Option Note). WorldHolds g (after g w (End (Joiner j) q ps kept)) (k.new ++ drawn)) (sym m.1.1)
            (joiner_replaced g w drawn holds j m.0 (ended land_joiner (w.joiners j) (joiner_row g j (w.joiners j)).note (joiner_row g j (w.joiners j)).live) (sends (Joiner j) ps) k.new k.epoch k.more k.one k.drawing k.kept k.live tt
            (addressed_hold g (extended (known g w drawn) j (land land_joiner (joiner_row g j (w.joiners j)).note (w.joiners j).kept).pairs k.new) (Joiner j) (joiner_row g j (w.joiners j)).packets ps m.1.2 k.packets)),
        λ t _. fates_ended g c old w drawn holds j m.0 made ps kept k m.1.1 t,
      )
  step (Stop (Dispatcher s) landed) m p =
      let kept = landed_either (DispatcherSound g (known g w drawn)) land_dispatcher (w.dispatchers s).kept (dispatcher_row g s (w.dispatchers s)).note landed m.1.1 (holds.dispatchers s m.0).kept (dispatcher_row_keeps g w drawn holds c s m.0).kept in
      (drawn, dispatcher_replaced g w drawn holds s (stopped land_dispatcher (w.dispatchers s) landed) [] (record { kept = kept; live = tt; opened = tt }) (λ x q. absurd q), λ t _. t)
  step (Stop (Server s) landed) m p = (drawn, server_replaced g w drawn holds s (stopped land_server (w.servers s) landed) [] (record { live = tt; opened = tt }) (λ x q. absurd q), λ t _. t)
  step (Stop (Replica r) landed) m p =
      let kept = landed_either (λ (k : ReplicaKept). Each (InsertsOf g (known g w drawn)) k.notes) land_replica (w.replicas r).kept (replica_row (w.replicas r)).note landed m.1.1 (holds.replicas r m.0).kept (replica_row_keeps g w drawn holds r m.0).kept in
      (drawn, replica_replaced g w drawn holds r (stopped land_replica (w.replicas r) landed) [] p.grows (record { kept = kept; opened = tt }) (λ x q. absurd q), λ t _. fates_decided g old w drawn (after g w (Stop (Replica r) landed)) refl p.grows t)
  step (Stop (Joiner j) landed) m p =
      let k = joiner_row_keeps g w drawn holds c j m.0 in
      ⊎_elim
      (λ (e : landed ≡ None). (drawn, subst (λ (q : Option Note). WorldHolds g (after g w (Stop (Joiner j) q)) drawn) (sym e) (joiner_stays j m.0 None None tt tt), λ t x. absurd x))
      (λ (e : landed ≡ (joiner_row g j (w.joiners j)).note). (
        k.new ++ drawn,
        subst (λ (q : Option Note). WorldHolds g (after g w (Stop (Joiner j) q)) (k.new ++ drawn)) (sym e)
            (joiner_replaced g w drawn holds j m.0 (stopped land_joiner (w.joiners j) (joiner_row g j (w.joiners j)).note) [] k.new k.epoch k.more k.one k.drawing k.kept tt tt (λ x q. absurd q)),
        λ t x. absurd x,
      ))
      m.1.1

pub opens : (g : Setting) (d : Disks) (drawn : List Insert) → Sound g d drawn → WorldHolds g (opening d) drawn
opens g d drawn s = grind arith

-- ---- what the facts say of clicks

find_pair : (ps : List PairRec) (i : EventId) → ((p : PairRec) × Mem p ps × (p.click.id ≡ i)) ⊎ ((p : PairRec) → Mem p ps → p.click.id ≡ i → ⊥)
find_pair ps i = go (find (λ (q : PairRec). same_id q.click.id i) ps) refl
  where
    go : (o : Option PairRec) → find (λ (q : PairRec). same_id q.click.id i) ps ≡ o → ((p : PairRec) × Mem p ps × (p.click.id ≡ i)) ⊎ ((p : PairRec) → Mem p ps → p.click.id ≡ i → ⊥)
    go (Some p) e = let h = found ps i p e in inl (p, h.0, h.1)
    go None e = inr (λ p m same. not_found ps i p e m same)

find_joiner : (f : ℕ → List PairRec) (i : EventId) (from m : ℕ) → ((j : ℕ) × (p : PairRec) × (from ≤ j) × (j < from + m) × Mem p (f j) × (p.click.id ≡ i)) ⊎ ((j : ℕ) (p : PairRec) → from ≤ j → j < from + m → Mem p (f j) → p.click.id ≡ i → ⊥)
find_joiner f i from zero = inr (λ j p a b. absurd (omega arith))
find_joiner f i from (suc m) = go (find_joiner f i from m) (find_pair (f (from + m)) i)
  where
    go : ((j : ℕ) × (p : PairRec) × (from ≤ j) × (j < from + m) × Mem p (f j) × (p.click.id ≡ i)) ⊎ ((j : ℕ) (p : PairRec) → from ≤ j → j < from + m → Mem p (f j) → p.click.id ≡ i → ⊥) → ((p : PairRec) × Mem p (f (from + m)) × (p.click.id ≡ i)) ⊎ ((p : PairRec) → Mem p (f (from + m)) → p.click.id ≡ i → ⊥) →
        ((j : ℕ) × (p : PairRec) × (from ≤ j) × (j < from + suc m) × Mem p (f j) × (p.click.id ≡ i)) ⊎ ((j : ℕ) (p : PairRec) → from ≤ j → j < from + suc m → Mem p (f j) → p.click.id ≡ i → ⊥)
    go (inl h) x = inl (h.0, h.1, h.2, (let q = h.3 in omega arith), h.4, h.5)
    go (inr h) (inl x) = inl (from + m, x.0, omega arith, omega arith, x.1, x.2)
    go (inr h) (inr x) =
        inr (λ j p a b u v. ⊎_elim
        (λ (lt : j < from + m). h j p a lt u v)
        (λ (ge : from + m ≤ j). let same : j ≡ from + m = omega arith in x p (subst (λ t. Mem p (f t)) same u) v)
        (cases_lt j (from + m)))

written_or_not : (g : Setting) (n : Known) (i : EventId) → IsWritten g n i ⊎ (IsWritten g n i → ⊥)
written_or_not g n i = ⊎_elim (λ h. inl (h.0, h.1, (h.2, h.3), h.4, h.5)) (λ h. inr (λ w. h w.0 w.1 w.2.0 w.2.1 w.3 w.4)) (find_joiner n.pairs i (first_joiner g) (2 * g.config.joiners))

pub drained : (g : Setting) (w : World) (drawn : List Insert) → Checked g → WorldHolds g w drawn → (s : ℕ) → s < 2 → IsDrained g (w.dispatchers s).kept → (l : ClickLine) (q : Query) → Mem l g.clicks → first g.queries l.click.query ≡ Some q → (Expired (values_of g (known g w []) l.click.id) l.click.id → ⊥) → IsWritten g (known g w []) l.click.id ⊎ IsMissing g (known g w []) l.click.id
drained g w drawn c h s lt d l q m found fresh =
    ⊎_elim
    (λ p. let x = d.no_query l.place p in absurd (clash (subst (λ (y : ClickLine). first g.queries y.click.query ≡ None) (some_same x.0 l (sym x.1 ∙ at_own g.clicks 0 l c.follow m)) x.2)))
    (λ p. ⊎_elim (λ r. ⊎_elim (λ reg. ⊎_elim (λ yes. inl yes) (λ no_. inr (reg, no_)) (written_or_not g (known g w []) l.click.id)) (λ e. absurd (fresh e)) r) (λ x. inl x) p)
    ((h.dispatchers s lt).kept.passed l m (subst (λ t. l.place < t) (sym d.at_end) (within_end g.clicks 0 l c.follow m)))
  where
    clash : first g.queries l.click.query ≡ None → ⊥
    clash e = none_some q (sym e ∙ found)

-- a boundary at which no line begins is the end of the log
last_boundary : (ls : List ClickLine) (p e : ℕ) → Follow p ls → ((e ≡ p) ⊎ ((l : ClickLine) × Mem l ls × (l.end_ ≡ e))) → at ls e ≡ None → e ≡ end_from p ls
last_boundary [] p e f h n = grind arith
last_boundary (x ∷ ls) p e f b n = grind (arith, last_boundary ls x.end_ e f.2)

at_place : (ps : List PairRec) (k : ℕ) (p : PairRec) → slice_get ps k ≡ Some p → Mem p ps
at_place [] k p e = none_some p e
at_place (x ∷ ps) zero p e = inl (some_same x p e)
at_place (x ∷ ps) (suc k) p e = inr (at_place ps k p e)

one_place : (ps : List PairRec) (k m : ℕ) (p q : PairRec) → EachPair (λ (a b : PairRec). a.token ≢ b.token) ps → slice_get ps k ≡ Some p → slice_get ps m ≡ Some q → p.token ≡ q.token → k ≡ m
one_place [] k m p q d a b e = none_some p a
one_place (x ∷ ps) zero zero p q d a b e = refl
one_place (x ∷ ps) zero (suc m) p q d a b e = absurd (each_at (λ (y : PairRec). x.token ≢ y.token) ps d.0 q (at_place ps m q b) (ap (λ (y : PairRec). y.token) (some_same x p a) ∙ e))
one_place (x ∷ ps) (suc k) zero p q d a b e = absurd (each_at (λ (y : PairRec). x.token ≢ y.token) ps d.0 p (at_place ps k p a) (ap (λ (y : PairRec). y.token) (some_same x q b) ∙ sym e))
one_place (x ∷ ps) (suc k) (suc m) p q d a b e = ap suc (one_place ps k m p q d.1 a b e)

pub written_once : (g : Setting) (w : World) (drawn : List Insert) → WorldHolds g w drawn → (i j k m : ℕ) (p q : PairRec) → IsJoiner g i → IsJoiner g j → PairAt w i k p → PairAt w j m q → p.click.id ≡ q.click.id → (i ≡ j) × (k ≡ m)
written_once g w drawn h i j k m p q a b u v e =
    let f = (h.joiners i a).kept in
    let x = each_at (PairSound g (known g w drawn) i (w.joiners i).kept.epoch) (w.joiners i).kept.pairs f.pairs p (at_place (w.joiners i).kept.pairs k p u) in
    let y = each_at (PairSound g (known g w drawn) j (w.joiners j).kept.epoch) (w.joiners j).kept.pairs (h.joiners j b).kept.pairs q (at_place (w.joiners j).kept.pairs m q v) in
    let t : p.token ≡ q.token = one_granted (values_of g (known g w drawn) q.click.id) q.click.id p.token q.token (subst (λ (z : EventId). IsGranted (values_of g (known g w drawn) z) z p.token) e x.granted) y.granted in
    let s : i ≡ j = sym x.joiner ∙ ap (λ (z : Token). z.joiner) t ∙ y.joiner in
    (s, one_place (w.joiners i).kept.pairs k m p q f.once u (subst (λ z. PairAt w z m q) (sym s) v) t)

pub own_query : (g : Setting) (w : World) (drawn : List Insert) → WorldHolds g w drawn → (j k : ℕ) (p : PairRec) → IsJoiner g j → PairAt w j k p → IsJoin g p.click p.query
own_query g w drawn h j k p a u = (each_at (PairSound g (known g w drawn) j (w.joiners j).kept.epoch) (w.joiners j).kept.pairs (h.joiners j a).kept.pairs p (at_place (w.joiners j).kept.pairs k p u)).own_query

pub rest_drained : (g : Setting) (w : World) (drawn : List Insert) → Checked g → WorldHolds g w drawn → (s : ℕ) → s < 2 → UpWith (λ l. dispatcher_at_rest l ≡ true) (w.dispatchers s).live → IsDrained g (w.dispatchers s).kept
rest_drained g w drawn c h s lt = grind (arith, last_boundary)
