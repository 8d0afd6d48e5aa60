-- Each row of a joiner keeps its facts.
use Rattle.std.proofs.Common.{◌≡◌, ◌≢◌, inl, ⊎_elim, ℕ, suc, ◌<◌, ◌≤◌, true, false, List, [], ◌∷◌, ◌++◌, length, map, Some, None, refl, sym, ap, ◌∙◌, subst, arith, ◌⊎◌, inr, Bool, cond, Option}
use Rattle.std.proofs.lemmas.Bool.{and_parts, and_from, cond_both, or_parts}
use Rattle.photon_model.proofs.Worlds.{set_own}
use Rattle.photon_model.proofs.Words.{EventId, Token, Insert, same_id, same_token, Query, Click, ClickLine, at, first_click, first, Mem, Each, Setting, Checked, IsJoiner, Answer, Granted, Duplicate, TooOld, IsGranted, Outcome, NoQuery, Busy, PairRec, Input, Note, Out, idle, land, JoinerKept, JoinerLive, Flight, land_joiner, insert_of, is_for, in_flight, landed, to_dispatcher, claim, next_token, without_flight, answers, joiner_turn, joiner_start, clash, mem_left, mem_right, each_at, each_from, each_more, each_append, pairs_push, at_mem, same_id-true, same_token-true, same_id-refl, same_token-refl, Known, granted_stays, values_of, PairSound, JoinerSound, DrawnSound, IsTooOld, HoldsOfOutcome, HoldsOfReply, HoldsOfInput, FlightHolds, JoinerHolds, PacketsHold, Grows, extended, JoinerKeeps, NoConflict, EachPair, same_id-false}
use Rattle.photon_model.proofs.JoinerRows.{begun_join, every_row}
use Rattle.photon_model.proofs.Growth.{begins_self, late_lasts, joiner_kept_lasts, joiner_live_lasts, flight_lasts, pair_lasts}

-- the first click with the id of a line is a line with the same click
first_of : (ls all : List ClickLine) (l : ClickLine) → ((m : ClickLine) → Mem m ls → Mem m all) → NoConflict all → Mem l all → Mem l ls → (m : ClickLine) × (first_click ls l.click.id ≡ Some m) × (m.click ≡ l.click)
first_of [] all l sub nc here m = absurd m
first_of (x ∷ ls) all l sub nc here m = go (λ h. first_of ls all l (λ y z. sub y (inr z)) nc here h) (same_id l.click.id x.click.id) refl m
  where
    go : (Mem l ls → (y : ClickLine) × (first_click ls l.click.id ≡ Some y) × (y.click ≡ l.click)) → (b : Bool) → same_id l.click.id x.click.id ≡ b → (x ≡ l) ⊎ Mem l ls → (y : ClickLine) × (cond b (Some x) (first_click ls l.click.id) ≡ Some y) × (y.click ≡ l.click)
    go ih true e h = (x, refl, nc x l (sub x (inl refl)) here (sym (same_id-true l.click.id x.click.id e)))
    go ih false e (inl s) = absurd (same_id-false l.click.id x.click.id e (ap (λ (y : ClickLine). y.click.id) (sym s)))
    go ih false e (inr h) = ih h

pub for_means : (x : Insert) (f : Flight) → is_for x f ≡ true → (f.click.id ≡ x.id) × (f.token ≡ x.token)
for_means x f h = let p = and_parts (same_id f.click.id x.id) (same_token f.token x.token) h in (same_id-true f.click.id x.id p.0, same_token-true f.token x.token p.1)

-- what is left of a list of flights
landed_each : (P : Flight → Type 0) (fs : List Flight) (x : Insert) → Each P fs → Each P (landed fs x)
landed_each P [] x h = tt
landed_each P (f ∷ fs) x h = let rest = landed_each P fs x h.1 in cond_both (is_for x f) (landed fs x) (f ∷ landed fs x) (Each P) (λ _. rest) (λ _. (h.0, rest))

landed_pairs : (R : Flight → Flight → Type 0) (fs : List Flight) (x : Insert) → EachPair R fs → EachPair R (landed fs x)
landed_pairs R [] x h = tt
landed_pairs R (f ∷ fs) x h = let rest = landed_pairs R fs x h.1 in cond_both (is_for x f) (landed fs x) (f ∷ landed fs x) (EachPair R) (λ _. rest) (λ _. (landed_each (R f) fs x h.0, rest))

landed_other : (fs : List Flight) (x : Insert) → Each (λ (f : Flight). is_for x f ≡ false) (landed fs x)
landed_other [] x = tt
landed_other (f ∷ fs) x = let rest = landed_other fs x in cond_both (is_for x f) (landed fs x) (f ∷ landed fs x) (Each (λ (y : Flight). is_for x y ≡ false)) (λ _. rest) (λ e. (e, rest))

each_both : {A : Type 0} (P Q R : A → Type 0) (xs : List A) → ((x : A) → P x → Q x → R x) → Each P xs → Each Q xs → Each R xs
each_both P Q R [] h p q = tt
each_both P Q R (x ∷ xs) h p q = (h x p.0 q.0, each_both P Q R xs h p.1 q.1)

not_in_flight : (fs : List Flight) (i : EventId) → in_flight fs i ≡ false → Each (λ (f : Flight). f.click.id ≢ i) fs
not_in_flight [] i h = tt
not_in_flight (f ∷ fs) i h = let o = or_parts (same_id f.click.id i) (in_flight fs i) h in (same_id-false f.click.id i o.0, not_in_flight fs i o.1)

-- what is known grows
pub grows_extended : (n : Known) (j : ℕ) (old pairs : List PairRec) (new : List Insert) → n.pairs j ≡ old → ((p : PairRec) → Mem p old → Mem p pairs) → Grows n (extended n j pairs new)
grows_extended n j old pairs new is more = grind (arith, begins_self, mem_right)

module _ (g : Setting) (n : Known) (epochs : ℕ → ℕ) (j : ℕ) (k : JoinerKept) (l : JoinerLive) (c : Checked g) (is_joiner : IsJoiner g j) (own : n.pairs j ≡ k.pairs)
    (drawing : DrawnSound g n epochs) (sound : JoinerSound g n j k) (holds : JoinerHolds g n j k l) where
  -- the same disks, and nothing drawn
  abbrev same : Known
  same = extended n j k.pairs []

  same_up : Grows n same
  same_up = grows_extended n j k.pairs k.pairs [] own (λ p m. m)

  -- nothing is noted or drawn
  quiet : (o : Out JoinerLive) → o.note ≡ None → JoinerHolds g same j k o.live → PacketsHold g same o.packets → JoinerKeeps g n j k o
  quiet o e h p = record {
    new = [];
    flying = λ x m. absurd m;
    one = λ x y m. absurd m;
    drawing = tt;
    epoch = subst (λ (q : Option Note). k.epoch ≤ (land_opt q).epoch) (sym e) (omega arith);
    more = λ x m. subst (λ (q : Option Note). Mem x (land_opt q).pairs) (sym e) m;
    kept = subst (λ (q : Option Note). JoinerSound g (extended n j (land_opt q).pairs []) j (land_opt q)) (sym e) (joiner_kept_lasts g n same same_up j k sound);
    live = subst (λ (q : Option Note). JoinerHolds g (extended n j (land_opt q).pairs []) j (land_opt q) o.live) (sym e) h;
    packets = subst (λ (q : Option Note). PacketsHold g (extended n j (land_opt q).pairs []) o.packets) (sym e) p;
  }
    where
      land_opt : Option Note → JoinerKept
      land_opt q = land land_joiner q k

  live_same : JoinerHolds g same j k l
  live_same = joiner_live_lasts g n same same_up j k l (λ x m _. m) holds

  -- a joiner's answer alone
  tells : (p : ℕ) (o : Outcome) (line : ClickLine) → at g.clicks p ≡ Some line → HoldsOfOutcome g same line o → JoinerHolds g same j k l → JoinerKeeps g n j k (record { note = None; packets = to_dispatcher g j k l p o; live = l })
  tells p o line e h live = quiet _ refl live ((line, e, h), tt)

  -- a join begins
  begin_keeps : (p : ℕ) (x : Click) (line : ClickLine) → at g.clicks p ≡ Some line → line.click ≡ x → in_flight l.flight x.id ≡ false → (q : Query) → first g.queries x.query ≡ Some q → JoinerKeeps g n j k (begun_join g j k l p x q)
  begin_keeps p x line e same_click free q at_q =
      record {
        new = drawn ∷ [];
        flying = λ a m. ⊎_elim (λ q. (new_flight, mem_right new_flight l.flight (new_flight ∷ []) (inl refl), q)) (λ q. absurd q) m;
        one = λ a b m o. ⊎_elim (λ u. ⊎_elim (λ v. sym u ∙ v) (λ v. absurd v) o) (λ u. absurd u) m;
        drawing = (record { joinable = (line, inside, ap (λ (y : Click). y.id) same_click, (q, subst (λ (y : Click). first g.queries y.query ≡ Some q) (sym same_click) at_q)); joiner = refl; epoch = refl; unused = λ y m s. unused y m s }, tt);
        epoch = omega arith;
        more = λ y m. m;
        kept = joiner_kept_lasts g n now up j k sound;
        live = record {
          flights = each_append (FlightHolds g now j k.epoch (suc l.number)) l.flight (new_flight ∷ []) (each_more (FlightHolds g n j k.epoch l.number) (FlightHolds g now j k.epoch (suc l.number)) l.flight (flight_lasts g n now up j k.epoch l.number (suc l.number) (omega arith)) holds.flights)
              (record { own_query = (paired, at_q); line = (line, e, same_click); claimed = inl refl; joiner = refl; epoch = refl; number = omega arith }, tt);
          unused = λ y m a b. ⊎_elim (λ (u : drawn ≡ y). subst (λ (z : Insert). z.token.number < suc l.number) u (omega arith)) (λ (u : Mem y n.drawn). let r = holds.unused y u a b in omega arith) m;
          ids_differ = pairs_push (λ (a b : Flight). a.click.id ≢ b.click.id) l.flight new_flight holds.ids_differ (not_in_flight l.flight x.id free);
          unwritten = each_append (λ (f : Flight). Each (λ (r : PairRec). r.token ≢ f.token) k.pairs) l.flight (new_flight ∷ []) holds.unwritten (each_from (λ (r : PairRec). r.token ≢ next_token g j k l) k.pairs (λ r m. unused (record { id = r.click.id; token = r.token }) (each_at (PairSound g n j k.epoch) k.pairs sound.pairs r m).drawn), tt);
        };
        packets = (inl refl, tt);
      }
    where
      drawn : Insert
      drawn = record { id = x.id; token = next_token g j k l }

      now : Known
      now = extended n j k.pairs (drawn ∷ [])

      new_flight : Flight
      new_flight = record { position = p; click = x; query = q; token = next_token g j k l }

      up : Grows n now
      up = grows_extended n j k.pairs k.pairs (drawn ∷ []) own (λ r m. m)

      inside : Mem line g.clicks
      inside = (at_mem g.clicks p line e).0

      paired : (m : ClickLine) × (first_click g.clicks x.id ≡ Some m) × (m.click ≡ x)
      paired = let f = first_of g.clicks g.clicks line (λ m h. h) c.no_conflict inside inside in (f.0, subst (λ (y : Click). first_click g.clicks y.id ≡ Some f.0) same_click f.1, f.2 ∙ same_click)

      -- no drawn insert has the next token
      unused : (y : Insert) → Mem y n.drawn → y.token ≢ next_token g j k l
      unused y m s = let r = holds.unused y m (ap (λ (t : Token). t.joiner) s) (ap (λ (t : Token). t.epoch) s) in let u : y.token.number ≡ l.number = ap (λ (t : Token). t.number) s in absurd (omega arith)

  -- a flight ends without a pair
  module _ (x : Insert) (f : Flight) (here : Mem f l.flight) (is : is_for x f ≡ true) where
    flight_of : FlightHolds g n j k.epoch l.number f
    flight_of = each_at (FlightHolds g n j k.epoch l.number) l.flight holds.flights f here

    abbrev line : ClickLine
    line = flight_of.line.0

    to_x : line.click.id ≡ x.id
    to_x = ap (λ (y : Click). y.id) flight_of.line.2 ∙ (for_means x f is).0

    live_landed : JoinerHolds g same j k (without_flight g j k l x)
    live_landed = record {
      flights = landed_each (FlightHolds g same j k.epoch l.number) l.flight x live_same.flights;
      unused = live_same.unused;
      ids_differ = landed_pairs (λ (a b : Flight). a.click.id ≢ b.click.id) l.flight x holds.ids_differ;
      unwritten = landed_each (λ (y : Flight). Each (λ (r : PairRec). r.token ≢ y.token) k.pairs) l.flight x holds.unwritten;
    }

    abbrev pair : PairRec
    pair = record { click = f.click; query = f.query; token = f.token }

    answer_keeps : (a : Answer) → HoldsOfReply g n x a → JoinerKeeps g n j k (answers g j k l x f a)
    answer_keeps (Duplicate t) h = quiet _ refl live_landed ((line, flight_of.line.1, granted_stays _ _ line.click.id t (same_up.values _) (subst (λ (i : EventId). IsGranted (values_of g n i) i t) (sym to_x) h.1)), tt)
    answer_keeps (TooOld b) h = quiet _ refl live_landed ((line, flight_of.line.1, late_lasts g n same same_up line.click.id b (subst (λ (i : EventId). IsTooOld g n i b) (sym to_x) h)), tt)
    answer_keeps Granted h =
        record {
          new = [];
          flying = λ a m. absurd m;
          one = λ a b m. absurd m;
          drawing = tt;
          epoch = omega arith;
          more = λ r m. mem_left r k.pairs (pair ∷ []) m;
          kept = record {
            pairs = each_append (PairSound g now j k.epoch) k.pairs (pair ∷ []) (each_more (PairSound g n j k.epoch) (PairSound g now j k.epoch) k.pairs (pair_lasts g n now up j k.epoch k.epoch (omega arith)) sound.pairs)
                (record { own_query = flight_of.own_query; joiner = flight_of.joiner; epoch = (let q = flight_of.epoch in omega arith); granted = granted; drawn = flight_of.claimed }, tt);
            once = pairs_push (λ (a b : PairRec). a.token ≢ b.token) k.pairs pair sound.once (each_at (λ (y : Flight). Each (λ (r : PairRec). r.token ≢ y.token) k.pairs) l.flight holds.unwritten f here);
          };
          live = record {
            flights = landed_each (FlightHolds g now j k.epoch l.number) l.flight x (each_more (FlightHolds g n j k.epoch l.number) (FlightHolds g now j k.epoch l.number) l.flight (flight_lasts g n now up j k.epoch l.number l.number (omega arith)) holds.flights);
            unused = holds.unused;
            ids_differ = landed_pairs (λ (a b : Flight). a.click.id ≢ b.click.id) l.flight x holds.ids_differ;
            unwritten = each_both (λ (y : Flight). is_for x y ≡ false) (λ (y : Flight). FlightHolds g n j k.epoch l.number y × Each (λ (r : PairRec). r.token ≢ y.token) k.pairs) (λ (y : Flight). Each (λ (r : PairRec). r.token ≢ y.token) (k.pairs ++ pair ∷ [])) (landed l.flight x)
                (λ y off w. each_append (λ (r : PairRec). r.token ≢ y.token) k.pairs (pair ∷ []) w.1 (other y off w.0, tt))
                (landed_other l.flight x)
                (landed_each _ l.flight x (each_both _ _ _ l.flight (λ y a b. (a, b)) holds.flights holds.unwritten));
          };
          packets = ((line, flight_of.line.1, (j, pair, is_joiner, subst (λ (r : List PairRec). Mem pair r) (sym (set_own (λ (x : List PairRec). x) n.pairs j (k.pairs ++ pair ∷ []))) (mem_right pair k.pairs (pair ∷ []) (inl refl)), sym (ap (λ (y : Click). y.id) flight_of.line.2))), tt);
        }
      where
        now : Known
        now = extended n j (k.pairs ++ pair ∷ []) []

        up : Grows n now
        up = grows_extended n j k.pairs (k.pairs ++ pair ∷ []) [] own (λ r m. mem_left r k.pairs (pair ∷ []) m)

        means : (f.click.id ≡ x.id) × (f.token ≡ x.token)
        means = for_means x f is

        granted : IsGranted (values_of g now f.click.id) f.click.id f.token
        granted = granted_stays _ _ f.click.id f.token (up.values _) (subst (λ (y : EventId × Token). IsGranted (values_of g n y.0) y.0 y.1) (λ i. (sym means.0 i, sym means.1 i)) h)

        -- another flight has another token: with this one it would have this id, and have landed
        other : (y : Flight) → is_for x y ≡ false → FlightHolds g n j k.epoch l.number y → f.token ≢ y.token
        other y off w s =
            let i : y.click.id ≡ f.click.id = drawing.one_id (insert_of y) (insert_of f) w.claimed flight_of.claimed (sym s) in
            clash (is_for x y) (and_from (same_id y.click.id x.id) (same_token y.token x.token) (subst (λ (z : EventId). same_id y.click.id z ≡ true) (i ∙ means.0) (same_id-refl y.click.id)) (subst (λ (z : Token). same_token y.token z ≡ true) (sym s ∙ means.1) (same_token-refl y.token))) off

  claims_hold : (fs : List Flight) → Each (FlightHolds g same j k.epoch l.number) fs → PacketsHold g same (map (λ (f : Flight). claim g j k l (insert_of f)) fs)
  claims_hold [] h = tt
  claims_hold (f ∷ fs) h = (h.0.claimed, claims_hold fs h.1)

  pub joiner_keeps : (i : Input) → HoldsOfInput g n i → JoinerKeeps g n j k (joiner_turn g j k l i)
  joiner_keeps =
      every_row g j k l (λ i o. HoldsOfInput g n i → JoinerKeeps g n j k o)
      (record {
        idles = λ i h. quiet (idle l) refl live_same tt;
        ticks = λ h. quiet _ refl live_same (claims_hold l.flight live_same.flights);
        begins = λ from p x q free e h. begin_keeps p x h.0 h.1 h.2 free q e;
        misses = λ from p x e h. tells p (NoQuery (length g.queries)) h.0 h.1 (refl, subst (λ (y : Click). first g.queries y.query ≡ None) (sym h.2) e) live_same;
        is_busy = λ from p x h. tells p Busy h.0 h.1 tt live_same;
        is_answered = λ from x a f m is h. answer_keeps x f m is a h;
      })

pub joiner_start_keeps : (g : Setting) (n : Known) (epochs : ℕ → ℕ) (j : ℕ) (k : JoinerKept) → n.pairs j ≡ k.pairs → epochs j ≡ k.epoch → DrawnSound g n epochs → JoinerSound g n j k → JoinerKeeps g n j k (joiner_start k)
joiner_start_keeps g n epochs j k own at_j d s = grind (arith, each_more)
