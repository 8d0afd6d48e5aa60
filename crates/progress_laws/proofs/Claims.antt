-- In an interval in which nothing is done each join in flight goes on, so that at the end its server has something to do.
use Rattle.std.proofs.Common.{◌≡◌, inl, inr, ⊎_elim, ℕ, ◌+◌, ◌*◌, ◌<◌, Bool, true, nat_lt, List, ◌∷◌, Some, refl, sym, ap, ◌∙◌, subst, lit<, [], arith, Option, ◌⊎◌}
use Rattle.progress_laws.proofs.Words.{cond_both, and_from, le-leb, lt-ltb, eq-eqb, IsTable, up_is, Answer, Mem, some_same, Setting, IsJoiner, first_joiner, site_of_joiner, shard, Out, shard_below, Claim, Reply, Node, Server, Joiner, Only, Tick, Deliver, Sent, JoinerLive, Flight, insert_of, joiner_unfinished, ServerLive, is_own_joiner, World, Entry, server_row, joiner_row, after, world_after, JoinerWorks, if_up, IsIdle}
use Rattle.progress_laws.proofs.Moments.{opened_at, IsEnd, Step, along_idle, Pending, comes, SitesUp, turned, ended_own, lives, sites_up, by_row, by_turn, no_work, goes, row_sent_to}
use Rattle.progress_laws.proofs.Waiting.{some_empty, IsLeftAt, Heard, insert_heard, waits_left, left_stays}
use Rattle.progress_laws.proofs.Flying.{turn_both, Sends, tick_sends, reply_works}

-- ---- what becomes of a join in flight, at a moment of an interval

module _ (g : Setting) (w : World) (air : List Sent) (es : List Entry) where
  -- its insert is underway to the site's server
  abbrev pub IsAsked : ℕ → Flight → Type 0
  IsAsked j f = (from : Node) × Pending w air es (Server (site_of_joiner g j)) (Deliver from (Claim (insert_of f)))

  -- an answer is underway to the joiner
  abbrev pub IsAnswered : ℕ → Flight → Type 0
  IsAnswered j f = (from : Node) × (a : Answer) × Pending w air es (Joiner j) (Deliver from (Reply (insert_of f) a))

  -- its joiner has a Tick, its insert is underway, something is left to do at the site's server, or an answer is underway
  abbrev pub GoesOn : ℕ → Flight → Type 0
  GoesOn j f = (Pending w air es (Joiner j) Tick ⊎ IsAsked j f) ⊎ (IsLeftAt g w (site_of_joiner g j) ⊎ IsAnswered j f)

  -- The servers are up, and each join in flight goes on under a token of its joiner.
  pub record FlightsGoOn : Type 0 where
    pub up : SitesUp w
    pub each : (j : ℕ) → IsJoiner g j → (l : JoinerLive) → (w.joiners j).live ≡ Some l → (f : Flight) → Mem f l.flight → (f.token.joiner ≡ j) × GoesOn j f

-- some joiner of the site has a join in flight
abbrev pub HasFlight : Setting → World → ℕ → Type 0
HasFlight g w s = (j : ℕ) × (l : JoinerLive) × (f : Flight) × IsJoiner g j × (site_of_joiner g j ≡ s) × ((w.joiners j).live ≡ Some l) × Mem f l.flight

-- each token in flight is of its joiner
abbrev pub HasOwnTokens : Setting → World → Type 0
HasOwnTokens g w = (j : ℕ) → IsJoiner g j → (l : JoinerLive) → (w.joiners j).live ≡ Some l → (f : Flight) → Mem f l.flight → f.token.joiner ≡ j

pub site_below : (g : Setting) (j : ℕ) → site_of_joiner g j < 2
site_below g j = cond_both (nat_lt j (first_joiner g + g.config.joiners)) 0 1 (λ s. s < 2) (λ _. lit< tt) (λ _. lit< tt)

own_joiner : (g : Setting) (j : ℕ) → IsJoiner g j → is_own_joiner g (site_of_joiner g j) j ≡ true
own_joiner g j is = and_from _ _ (and_from _ _ (le-leb (first_joiner g) j is.0) (lt-ltb j (first_joiner g + 2 * g.config.joiners) is.1)) (eq-eqb (site_of_joiner g j) (site_of_joiner g j) refl)

module _ {g : Setting} {dead : ℕ → Bool} {w : World} {air next : List Sent} {e : Entry} {es : List Entry} (step : Step g dead w air next e es) where
  sent_on : (j : ℕ) → IsEnd e (Joiner j) → (f : Flight) → Sends g j f (joiner_row g j (w.joiners j)) → IsAsked g (after g w e) next es j f
  sent_on j end f m = (Joiner j, row_sent_to step (Joiner j) end (Server (site_of_joiner g j)) (Claim (insert_of f)) m refl)

  -- a flight stays
  pub flight_stays : (s : ℕ) → HasFlight g w s → HasFlight g (after g w e) s
  flight_stays s (j, l, f, is, site, up, m) =
      lives step (Joiner j) (λ same. (j, l, f, is, site, same ∙ up, m))
      (λ end now. ⊎_elim (λ k. (j, (joiner_row g j (w.joiners j)).live, f, is, site, now, k)) (λ works. absurd (no_work step (Joiner j) l up end (λ _. works)))
      (by_turn step (Joiner j) l up end (λ (o : Out JoinerLive). Mem f o.live.flight ⊎ JoinerWorks l o.live) (λ i _. (turn_both g j (w.joiners j).kept l i).1 f m)))

  -- what is in flight after a turn was so before, or its insert is sent
  begun : (j : ℕ) (f : Flight) → IsEnd e (Joiner j) → Mem f (joiner_row g j (w.joiners j)).live.flight → ((l : JoinerLive) × ((w.joiners j).live ≡ Some l) × Mem f l.flight) ⊎ ((f.token.joiner ≡ j) × Sends g j f (joiner_row g j (w.joiners j)))
  begun j f end =
      by_row step (Joiner j) end (λ (o : Out JoinerLive). Mem f o.live.flight → ((l : JoinerLive) × ((w.joiners j).live ≡ Some l) × Mem f l.flight) ⊎ ((f.token.joiner ≡ j) × Sends g j f o))
      (λ _ m. absurd m) (λ l up i _ m. ⊎_elim (λ k. inl (l, up, k)) (λ k. inr k) ((turn_both g j (w.joiners j).kept l i).0 f m))

  module _ (table : IsTable g.config.table) where
    -- a server's turn that takes an insert
    heard : (j : ℕ) (f : Flight) → IsJoiner g j → f.token.joiner ≡ j → (l : ServerLive) → (w.servers (site_of_joiner g j)).live ≡ Some l → IsEnd e (Server (site_of_joiner g j)) → (from : Node) → opened_at w (Server (site_of_joiner g j)) ≡ Some (Deliver from (Claim (insert_of f))) → GoesOn g (after g w e) next es j f
    heard j f is tok l up end from o =
        ⊎_elim
        (λ a. inr (inr (Server s, a.0, row_sent_to step (Server s) end (Joiner j) (Reply (insert_of f) a.0) (subst (λ t. Mem (Only (Joiner t), Reply (insert_of f) a.0) (server_row g s (w.servers s)).packets) tok a.1) refl)))
        (λ y. inr (inl ((server_row g s (w.servers s)).live, ended_own g w e (Server s) end, (shard g f.click.id, shard_below g f.click.id table, waits_left g ((server_row g s (w.servers s)).live.shards (shard g f.click.id)) y.0 y.1))))
        (subst (Heard g s (w.servers s).kept l (insert_of f)) (sym (turned g w (Server s) l (Deliver from (Claim (insert_of f))) up o)) (insert_heard g s (w.servers s).kept l from (insert_of f) (ap (is_own_joiner g s) tok ∙ own_joiner g j is)))
      where
        s : ℕ
        s = site_of_joiner g j

    -- a flight that was there before goes on
    moves : (j : ℕ) (is : IsJoiner g j) (f : Flight) → f.token.joiner ≡ j → (l : JoinerLive) → (w.joiners j).live ≡ Some l → Mem f l.flight → SitesUp w → GoesOn g w air (e ∷ es) j f → GoesOn g (after g w e) next es j f
    moves j is f tok l up m servers (inl (inl t)) =
        goes step (Joiner j) Tick t (λ k. inl (inl k)) (λ end o. inl (inr (sent_on j end f (subst (Sends g j f) (sym (turned g w (Joiner j) l Tick up o)) (tick_sends g j (w.joiners j).kept l f m)))))
    moves j is f tok l up m servers (inl (inr (from, u))) =
        goes step (Server (site_of_joiner g j)) (Deliver from (Claim (insert_of f))) u (λ k. inl (inr (from, k))) (λ end o. let v = servers (site_of_joiner g j) (site_below g j) in heard j f is tok v.0 v.1 end from o)
    moves j is f tok l up m servers (inr (inl left)) = inr (inl (left_stays step (site_of_joiner g j) left))
    moves j is f tok l up m servers (inr (inr (from, a, u))) =
        goes step (Joiner j) (Deliver from (Reply (insert_of f) a)) u (λ k. inr (inr (from, a, k)))
        (λ end o. absurd (no_work step (Joiner j) l up end (λ _. subst (λ (o : Out JoinerLive). JoinerWorks l o.live) (sym (turned g w (Joiner j) l (Deliver from (Reply (insert_of f) a)) up o)) (reply_works g j (w.joiners j).kept l f from a m))))

    pub flights_go_on : FlightsGoOn g w air (e ∷ es) → FlightsGoOn g (after g w e) next es
    flights_go_on h =
        record {
          up = sites_up step h.up;
          each = λ j is l now f m. lives step (Joiner j) (λ same. old j is l (sym same ∙ now) f m)
              (λ end is_row. ⊎_elim (λ k. old j is k.0 k.1 f k.2) (λ k. (k.0, inl (inr (sent_on j end f k.1)))) (begun j f end (subst (λ (x : JoinerLive). Mem f x.flight) (some_same _ _ (sym now ∙ is_row)) m)));
        }
      where
        old : (j : ℕ) (is : IsJoiner g j) (l : JoinerLive) → (w.joiners j).live ≡ Some l → (f : Flight) → Mem f l.flight → (f.token.joiner ≡ j) × GoesOn g (after g w e) next es j f
        old j is l up f m = let x = h.each j is l up f m in (x.0, moves j is f x.0 l up m h.up x.1)

-- ---- along an interval

pub asks : (g : Setting) (dead : ℕ → Bool) → IsTable g.config.table → (w : World) (es : List Entry) → IsIdle g dead w es → HasOwnTokens g w → (s : ℕ) → HasFlight g (world_after g w es) s → IsLeftAt g (world_after g w es) s
asks g dead table w es i own s (j, l, f, is, site, up, m) = subst (IsLeftAt g v) site (only ((along_idle g dead (FlightsGoOn g) (λ w air next e es step. flights_go_on step table) es w i begins).each j is l up f m).1)
  where
    v : World
    v = world_after g w es

    begins : FlightsGoOn g w [] es
    begins =
        record {
          up = λ s lt. let u = up_is _ (w.servers s).live (i.interval.starts.servers s lt).1 in (u.0, u.1);
          each = λ j is l up f m. (own j is l up f m, inl (inl (comes g dead w es i.interval (Joiner j) is (ap (λ (o : Option JoinerLive). if_up joiner_unfinished o) up ∙ some_empty l.flight f m))));
        }

    only : GoesOn g v [] [] j f → IsLeftAt g v (site_of_joiner g j)
    only h = grind arith
