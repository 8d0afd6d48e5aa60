-- A joiner's turn: what is in flight after it was so before, or its insert is sent; and what ends a flight is work.
use Rattle.std.proofs.Common.{◌≡◌, ◌⊎◌, inl, inr, ⊎_elim, ℕ, List, ◌∷◌, map, sym, ap, ◌∙◌, [], arith, find}
use Rattle.progress_laws.proofs.Words.{true≢false, and_from, find_none, landed_or, landed_before, Insert, same_id-refl, same_token-refl, Answer, Granted, Mem, option_both, mem_left, mem_split, Setting, site_of_joiner, Claim, Reply, Node, Server, Only, Input, Tick, Deliver, Out, idle, JoinerKept, JoinerLive, Flight, insert_of, is_for, landed, without_flight, answers, replied, joiner_turn, JoinerWorks}
use Rattle.photon_model.proofs.JoinerRows.{every_row}

mem_map : {A B : Type 0} (f : A → B) (xs : List A) (x : A) → Mem x xs → Mem (f x) (map f xs)
mem_map f [] x m = absurd m
mem_map f (y ∷ xs) x h = grind (arith, mem_map f xs x)

-- its insert is sent to the site's server
abbrev pub Sends : Setting → ℕ → Flight → Out JoinerLive → Type 0
Sends g j f o = Mem (Only (Server (site_of_joiner g j)), Claim (insert_of f)) o.packets

module _ (g : Setting) (j : ℕ) (k : JoinerKept) (l : JoinerLive) where
  -- in flight after the row: so before, or begun now, with its insert sent
  abbrev pub Begun : Out JoinerLive → Type 0
  Begun o = (f : Flight) → Mem f o.live.flight → Mem f l.flight ⊎ ((f.token.joiner ≡ j) × Sends g j f o)

  -- what was in flight still is, or the row is work
  abbrev pub Flies : Out JoinerLive → Type 0
  Flies o = (f : Flight) → Mem f l.flight → Mem f o.live.flight ⊎ JoinerWorks l o.live

  abbrev pub Both : Out JoinerLive → Type 0
  Both o = Begun o × Flies o

  same : Both (idle l)
  same = (λ f m. inl m, λ f m. inl m)

  without : (x : Insert) (f : Flight) → Mem f l.flight → Mem f (landed l.flight x) ⊎ JoinerWorks l (without_flight g j k l x)
  without x f m = ⊎_elim (λ q. inl q) (λ t. inr (f, m, λ q. true≢false (sym t ∙ (landed_before l.flight x f q).1))) (landed_or l.flight x f m)

  answers_both : (x : Insert) (y : Flight) (a : Answer) → Both (answers g j k l x y a)
  answers_both x y Granted = (λ f m. inl (landed_before l.flight x f m).0, without x)
  answers_both x y _ = (λ f m. inl (landed_before l.flight x f m).0, without x)

  pub turn_both : (i : Input) → Both (joiner_turn g j k l i)
  turn_both =
      every_row g j k l (λ i o. Both o)
      (record {
        idles = λ i. same;
        ticks = (λ f m. inl m, λ f m. inl m);
        begins = λ from p c q free e. (
          λ f m. ⊎_elim (λ r. inl r) (λ r. ⊎_elim (λ e. inr (ap (λ (z : Flight). z.token.joiner) (sym e), inl (ap (λ (z : Flight). (Only (Server (site_of_joiner g j)), Claim (insert_of z))) e))) (λ e. absurd e) r) (mem_split f l.flight _ m),
          λ f m. inl (mem_left f l.flight _ m),
        );
        misses = λ from p c e. (λ f m. inl m, λ f m. inl m);
        is_busy = λ from p c. (λ f m. inl m, λ f m. inl m);
        is_answered = λ from x a y m is. answers_both x y a;
      })

  -- a Tick sends the insert of each flight again
  pub tick_sends : (f : Flight) → Mem f l.flight → Sends g j f (joiner_turn g j k l Tick)
  tick_sends f m = mem_map (λ (y : Flight). (Only (Server (site_of_joiner g j)), Claim (insert_of y))) l.flight f m

  -- the answer of what is in flight is work
  pub reply_works : (f : Flight) (from : Node) (a : Answer) → Mem f l.flight → JoinerWorks l (joiner_turn g j k l (Deliver from (Reply (insert_of f) a))).live
  reply_works f from a m =
      option_both (find (is_for (insert_of f)) l.flight) (replied g j k l (insert_of f) a) (λ o. JoinerWorks l o.live)
      (λ y _. grind (arith, gone))
      (λ n. absurd (find_none (is_for (insert_of f)) l.flight f n m (and_from _ _ (same_id-refl f.click.id) (same_token-refl f.token))))
    where
      gone : JoinerWorks l (without_flight g j k l (insert_of f))
      gone = (f, m, λ q. true≢false (sym (and_from _ _ (same_id-refl f.click.id) (same_token-refl f.token)) ∙ (landed_before l.flight (insert_of f) f q).1))
