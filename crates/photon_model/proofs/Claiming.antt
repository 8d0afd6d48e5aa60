-- Each join in flight has sent its insert.
use Rattle.std.proofs.Common.{◌≡◌, ◌⊎◌, inl, inr, ⊎_elim, ℕ, List, [], ◌∷◌, ◌++◌, Some, None, refl, sym, ap, ◌∙◌, subst, arith, Option}
use Rattle.photon_model.proofs.Words.{Insert, Mem, set_at, Answer, Setting, Packet, Claim, Node, Dispatcher, Server, Replica, Joiner, To, Sent, Input, Out, JoinerKept, JoinerLive, Flight, insert_of, answers, joiner_turn, mem_left, mem_right, mem_split, at_set, some_same, none_some, Addressed, World, Entry, Begin, End, Stop, Disks, begun, stopped, joiner_row, sends, after, world_after, May, IsRun, opening, Cell}
use Rattle.photon_model.proofs.Finding.{addressed}
use Rattle.photon_model.proofs.JoinerRows.{landed_before, every_row}
use Rattle.photon_model.specs.Claims.{HasSent, ClaimsSent}

-- a packet of a row is among the packets sent
pub addressed_sent : (g : Setting) (from : Node) (as_ : List (To × Packet)) (ps : List (Node × Packet)) → Addressed g as_ ps → (a : To × Packet) → Mem a as_ → HasSent (sends from ps) a.1
addressed_sent g from as_ ps h a m = let i = addressed g from as_ ps h a m in (record { from = from; to = i.0; packet = a.1 }, i.2, refl)

-- what is in flight after a row was so before, or its insert is sent
module _ (g : Setting) (j : ℕ) (k : JoinerKept) (l : JoinerLive) where
  abbrev Claimed : Out JoinerLive → Type 0
  Claimed o = (f : Flight) → Mem f o.live.flight → Mem f l.flight ⊎ ((a : To × Packet) × Mem a o.packets × (a.1 ≡ Claim (insert_of f)))

  answers_claimed : (x : Insert) (y : Flight) (a : Answer) → Claimed (answers g j k l x y a)
  answers_claimed x y a f m = grind (arith, landed_before)

  turn_claimed : (i : Input) → Claimed (joiner_turn g j k l i)
  turn_claimed =
      every_row g j k l (λ i o. Claimed o)
      (record {
        idles = λ i f m. inl m;
        ticks = λ f m. inl m;
        begins = λ from p c q free e f m. ⊎_elim (λ r. inl r) (λ r. ⊎_elim (λ e. inr (_, inl refl, ap (λ (z : Flight). Claim (insert_of z)) e)) (λ e. absurd e) r) (mem_split f l.flight _ m);
        misses = λ from p c e f m. inl m;
        is_busy = λ from p c f m. inl m;
        is_answered = λ from x a y m is. answers_claimed x y a;
      })

-- before the row: nothing is in flight in a node that is down
abbrev WasFlying : Option JoinerLive → Flight → Type 0
WasFlying None f = ⊥
WasFlying (Some l) f = Mem f l.flight

row_claimed : (g : Setting) (j : ℕ) (c : Cell JoinerKept JoinerLive) (f : Flight) → Mem f (joiner_row g j c).live.flight → WasFlying c.live f ⊎ ((a : To × Packet) × Mem a (joiner_row g j c).packets × (a.1 ≡ Claim (insert_of f)))
row_claimed g j c f = grind (arith, turn_claimed)

module _ (g : Setting) (w : World) (h : ClaimsSent w) where
  abbrev Sends : List Sent → Option JoinerLive → Type 0
  Sends sent o = (l : JoinerLive) → o ≡ Some l → (f : Flight) → Mem f l.flight → HasSent sent (Claim (insert_of f))

  more : (new : List Sent) (p : Packet) → HasSent w.sent p → HasSent (new ++ w.sent) p
  more new p x = (x.0, mem_right x.0 new w.sent x.1, x.2)

  keeps : (new : List Sent) (j : ℕ) → Sends (new ++ w.sent) (w.joiners j).live
  keeps new j l e f m = more new (Claim (insert_of f)) (h j l e f m)

  was : (j : ℕ) (f : Flight) → WasFlying (w.joiners j).live f → HasSent w.sent (Claim (insert_of f))
  was j f x = go (w.joiners j).live refl x
    where
      go : (o : Option JoinerLive) → (w.joiners j).live ≡ o → WasFlying o f → HasSent w.sent (Claim (insert_of f))
      go None e x = absurd x
      go (Some l) e x = h j l e f x

  replaced : (j : ℕ) (c : Cell JoinerKept JoinerLive) (new : List Sent) → Sends (new ++ w.sent) c.live → (m : ℕ) → Sends (new ++ w.sent) (set_at w.joiners j c m).live
  replaced j c new s = at_set (λ m (d : Cell JoinerKept JoinerLive). Sends (new ++ w.sent) d.live) w.joiners j c s (keeps new)

  claims_kept : (e : Entry) → May g w e → ClaimsSent (after g w e)
  claims_kept (Begin (Joiner j) i) m = replaced j (begun (w.joiners j) i) [] (h j)
  claims_kept (End (Dispatcher s) _ ps kept) m = keeps (sends (Dispatcher s) ps)
  claims_kept (End (Server s) _ ps kept) m = keeps (sends (Server s) ps)
  claims_kept (End (Replica r) _ ps kept) m = keeps (sends (Replica r) ps)
  claims_kept (End (Joiner j) made ps kept) m =
      replaced j _ (sends (Joiner j) ps)
      (λ l e f q. ⊎_elim
      (λ x. more (sends (Joiner j) ps) (Claim (insert_of f)) (was j f x))
      (λ (x : (a : To × Packet) × Mem a (joiner_row g j (w.joiners j)).packets × (a.1 ≡ Claim (insert_of f))). let s = addressed_sent g (Joiner j) (joiner_row g j (w.joiners j)).packets ps m.1.2 x.0 x.1 in (s.0, mem_left s.0 (sends (Joiner j) ps) w.sent s.1, s.2 ∙ x.2))
      (row_claimed g j (w.joiners j) f (subst (λ (z : JoinerLive). Mem f z.flight) (sym (some_same _ l e)) q)))
  claims_kept (Stop (Joiner j) o) m = replaced j (stopped Rattle.turn_defs.specs.Joiner.land_joiner (w.joiners j) o) [] (λ l e. none_some l e)
  claims_kept _ m = h

claims_run : (g : Setting) (es : List Entry) (w : World) → ClaimsSent w → IsRun g w es → ClaimsSent (world_after g w es)
claims_run g [] w h r = h
claims_run g (e ∷ es) w h r = claims_run g es (after g w e) (claims_kept g w h e r.0) r.1

pub every_claim_sent : (g : Setting) (d : Disks) (es : List Entry) → IsRun g (opening d) es → ClaimsSent (world_after g (opening d) es)
every_claim_sent g d es r = claims_run g es (opening d) (λ j l e. none_some l e) r
