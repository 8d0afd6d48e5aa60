-- The rows of a joiner: what holds of each row's case holds of every turn.
use Rattle.std.proofs.Common.{◌≡◌, ◌⊎◌, ℕ, suc, true, false, List, [], ◌∷◌, ◌++◌, length, map, Some, None, arith}
use Rattle.photon_model.proofs.Finding.{find_some}
use Rattle.photon_model.proofs.Words.{landed, Setting, site_of_joiner, Insert, Query, Click, first, Mem, Each, Answer, Packet, Join, Joined, Reply, Claim, Outcome, NoQuery, Busy, Node, Dispatcher, Server, To, Only, Input, Tick, Deliver, Out, idle, JoinerKept, JoinerLive, Flight, insert_of, is_for, in_flight, to_dispatcher, claim, next_token, answers, joiner_tick, joiner_turn}

-- a flight of another insert stays
pub landed_or : (fs : List Flight) (x : Insert) (f : Flight) → Mem f fs → Mem f (landed fs x) ⊎ (is_for x f ≡ true)
landed_or [] x f m = absurd m
landed_or (y ∷ fs) x f m = grind (arith, landed_or fs x f)

pub landed_before : (fs : List Flight) (x : Insert) (f : Flight) → Mem f (landed fs x) → Mem f fs × (is_for x f ≡ false)
landed_before [] x f m = absurd m
landed_before (y ∷ fs) x f m = grind (arith, landed_before fs x f)

module _ (g : Setting) (j : ℕ) (k : JoinerKept) (l : JoinerLive) where
  abbrev pub new_flight : ℕ → Click → Query → Flight
  new_flight p c q = record { position = p; click = c; query = q; token = next_token g j k l }

  -- a join begins, and its insert is sent
  abbrev pub begun_join : ℕ → Click → Query → Out JoinerLive
  begun_join p c q = record { note = None; packets = claim g j k l (insert_of (new_flight p c q)) ∷ []; live = record { number = suc l.number; flight = l.flight ++ new_flight p c q ∷ [] } }

  -- what each row makes of its input
  pub record Rows (P : Input → Out JoinerLive → Type 0) : Type 0 where
    pub idles : (i : Input) → P i (idle l)
    pub ticks : P Tick (joiner_tick g j k l)
    pub begins : (from : Node) (p : ℕ) (c : Click) (q : Query) → in_flight l.flight c.id ≡ false → first g.queries c.query ≡ Some q → P (Deliver from (Join p c)) (begun_join p c q)
    pub misses : (from : Node) (p : ℕ) (c : Click) → first g.queries c.query ≡ None → P (Deliver from (Join p c)) (record { note = None; packets = to_dispatcher g j k l p (NoQuery (length g.queries)); live = l })
    pub is_busy : (from : Node) (p : ℕ) (c : Click) → P (Deliver from (Join p c)) (record { note = None; packets = to_dispatcher g j k l p Busy; live = l })
    pub is_answered : (from : Node) (x : Insert) (a : Answer) (f : Flight) → Mem f l.flight → is_for x f ≡ true → P (Deliver from (Reply x a)) (answers g j k l x f a)

  pub every_row : (P : Input → Out JoinerLive → Type 0) → Rows P → (i : Input) → P i (joiner_turn g j k l i)
  every_row P h i = grind (arith, find_some)

  -- the packets of a row: outcomes to its dispatcher, and inserts to its server
  module _ (P : To × Packet → Type 0) (tells : (p : ℕ) (o : Outcome) → P (Only (Dispatcher (site_of_joiner g j)), Joined p o)) (claims : (x : Insert) → P (Only (Server (site_of_joiner g j)), Claim x)) where
    all_claimed : (fs : List Flight) → Each P (map (λ (f : Flight). claim g j k l (insert_of f)) fs)
    all_claimed [] = tt
    all_claimed (f ∷ fs) = (claims (insert_of f), all_claimed fs)

    answer_told : (x : Insert) (f : Flight) (a : Answer) → Each P (answers g j k l x f a).packets
    answer_told x f a = grind arith

    pub each_packet : (i : Input) → Each P (joiner_turn g j k l i).packets
    each_packet =
        every_row (λ i o. Each P o.packets)
        (record {
          idles = λ i. tt;
          ticks = all_claimed l.flight;
          begins = λ from p c q free e. (claims _, tt);
          misses = λ from p c e. (tells p _, tt);
          is_busy = λ from p c. (tells p _, tt);
          is_answered = λ from x a f m is. answer_told x f a;
        })
