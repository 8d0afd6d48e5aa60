-- What one entry does to all parts of an Air.
use Rattle.std.proofs.Common.{◌≡◌, ℕ, ◌+◌, ◌<◌, ◌^◌, ◌==◌, Bool, if◌then◌else◌, List, [], ◌∷◌, ◌++◌, length, get_or, set, refl, sym, ap, ◌∙◌, subst, arith, length-append}
use Rattle.std.specs.Prelude.{Option}
use Rattle.air_bus.proofs.Words.{length-set, get_or_read, fold_push, Kind, PlanView, Entry, Begin, Input, Phase, Down, Inbox, Agrees, open_of, MayFollow, node_of, phase, phase_after, next_input, Keeps, AllTurn, next_copy, Received, received, waiting, after_entry, taken_by, nothing}
use Rattle.air_bus.proofs.Phases.{phases_kept, open_set, aired_more}

module _ (plan : PlanView) (kinds : List Kind) (phases : List Phase) (turns : ℕ) (inboxes : List Inbox) (h : List Entry) (was : Agrees plan kinds phases turns inboxes h) where
  -- the inboxes hold what they held
  pub agrees_same : (inboxes' : List Inbox) → length inboxes' ≡ length inboxes → AllTurn inboxes inboxes' (λ n r. r) → Agrees plan kinds phases turns inboxes' h
  agrees_same inboxes' many turn = record {
    phase_each = was.phase_each;
    phase_many = was.phase_many;
    counted = was.counted;
    closes = was.closes;
    many = many ∙ was.many;
    inbox_each = λ n d inside. turn n d (omega (arith, inside, was.many)) (length kinds) (received plan kinds n h) (was.inbox_each n d inside);
    aired = was.aired;
  }

  -- one entry more
  pub agrees_more : (l : Entry) (at : ℕ) (p : Phase) (turns' : ℕ) (inboxes' : List Inbox) (h' : List Entry)
      → at ≡ node_of l → node_of l < length kinds → phase_after l ≡ p → turns' + open_of (phase (node_of l) h) ≡ turns + open_of p → length h + 1 + turns' < 2 ^ 63 → h' ≡ h ++ l ∷ []
      → MayFollow plan kinds h l → length inboxes' ≡ length inboxes → AllTurn inboxes inboxes' (λ n r. after_entry plan kinds n r l)
      → Agrees plan kinds (set phases at p) turns' inboxes' h'
  agrees_more l at p turns' inboxes' h' here inside after count fits is may many turn =
      let below : at < length phases = omega (arith, here, inside, was.phase_many) in
      let stood : get_or phases at Down ≡ phase (node_of l) h = was.phase_each at ∙ ap (λ k. phase k h) here in
      let opened = open_set phases at p (phase (node_of l) h) below stood in
      subst (λ hs. Agrees plan kinds (set phases at p) turns' inboxes' hs) (sym is) (record {
        phase_each = phases_kept phases h l at p below (sym here) after was.phase_each;
        phase_many = length-set phases at p ∙ was.phase_many;
        counted = omega (arith, opened, count, was.counted);
        closes = omega (arith, fits, length-append h (l ∷ []));
        many = many ∙ was.many;
        inbox_each = λ n d inside. subst (Keeps (length kinds) (get_or inboxes' n d)) (sym (fold_push (after_entry plan kinds n) nothing h l))
            (turn n d (omega (arith, inside, was.many)) (length kinds) (received plan kinds n h) (was.inbox_each n d inside));
        aired = aired_more plan kinds h (h ++ l ∷ []) l was.aired may refl;
      })

  -- what was chosen is what the history gives
  pub chosen_is : (at node : ℕ) (stands : Phase) (tick wants : Bool) (o : Option Input) → at ≡ node → node < length kinds → stands ≡ get_or phases at stands
      → ((nodes : ℕ) (r : Received) → ((d : Inbox) → Keeps nodes (get_or inboxes at d) r) → o ≡ next_input stands (next_copy r.copies) tick wants)
      → o ≡ next_input (phase node h) (next_copy (waiting plan kinds node h)) tick wants
  chosen_is at node stands tick wants o here inside read told =
      let below : at < length phases = omega (arith, here, inside, was.phase_many) in
      let stood : stands ≡ phase node h = get_or_read phases at stands below read Down ∙ was.phase_each at ∙ ap (λ k. phase k h) here in
      told (length kinds) (received plan kinds node h) (λ d. subst (λ k. Keeps (length kinds) (get_or inboxes k d) (received plan kinds node h)) (sym here) (was.inbox_each node d inside))
      ∙ ap (λ p. next_input p (next_copy (waiting plan kinds node h)) tick wants) stood

-- two turns of the inboxes are what a turn's begin does
pub begin_turn : (plan : PlanView) (kinds : List Kind) (olds mids news : List Inbox) (at node : ℕ) (input noted : Input) → at ≡ node → noted ≡ input → length mids ≡ length olds → AllTurn olds mids (λ n r. r)
    → AllTurn mids news (λ n r. if at == n then taken_by input r else r) → AllTurn olds news (λ n r. after_entry plan kinds n r (Begin node noted))
begin_turn plan kinds olds mids news at node input noted here same many one two = λ n d below nodes r k.
    let change : (if at == n then taken_by input r else r) ≡ (if node == n then taken_by noted r else r) =
    ap (λ (m : ℕ). if m == n then taken_by input r else r) here ∙ ap (λ i. if node == n then taken_by i r else r) (sym same) in
    subst (Keeps nodes (get_or news n d)) change (two n d (omega (arith, below, many)) nodes r (one n d below nodes r k))
