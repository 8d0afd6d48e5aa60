-- What the packets of an end do to the inboxes.
use Rattle.std.proofs.Common.{◌≡◌, ℕ, suc, zero, ◌+◌, ◌<◌, ◌==◌, Bool, true, false, if◌then◌else◌, List, [], ◌∷◌, length, get_or, set, take, drop, fold, refl, sym, ap, ◌∙◌, subst, arith, get_or-set_other, get_or-set_same, eq-eqb, ne_eqb}
use Rattle.air_bus.proofs.Words.{lt-ltb, get_or_read, fold_more, dite, ℕ_discrete, Kind, PlanView, Inbox, Keeps, Turns, AllTurn, Received, puts, puts_one, one_packet}

module _ (plan : PlanView) (kinds : List Kind) where
  -- the first so many are put, and the others are lost
  pub puts_split : (n from : ℕ) (ps : List (ℕ × List ℕ)) (kept : ℕ) (r : Received)
      → puts plan kinds n from ps kept r ≡ fold (one_packet plan kinds n from false) (fold (one_packet plan kinds n from true) r (take kept ps)) (drop kept ps)
  puts_split n from [] zero r = refl
  puts_split n from [] (suc k) r = refl
  puts_split n from (p ∷ ps) zero r = puts_split n from ps zero (one_packet plan kinds n from false r p)
  puts_split n from (p ∷ ps) (suc k) r = grind (arith, lt-ltb, puts_split n from ps k)

  -- a packet to one inbox
  pub turn_step : (from : ℕ) (is_kept : Bool) (olds mids : List Inbox) (at to : ℕ) (bytes : List ℕ) (x new : Inbox) (f : ℕ → Received → Received)
      → at ≡ to → length mids ≡ length olds → to < length mids → x ≡ get_or mids at x → Turns x new (puts_one plan kinds to from bytes is_kept)
      → AllTurn olds mids f → AllTurn olds (set mids at new) (λ n r. one_packet plan kinds n from is_kept (f n r) (to, bytes))
  turn_step from is_kept olds mids at to bytes x new f here same inside read turn all = λ n d below nodes r k.
      let before : Keeps nodes (get_or mids n d) (f n r) = all n d below nodes r k in
      subst (λ a. Keeps nodes (get_or (set mids a new) n d) (one_packet plan kinds n from is_kept (f n r) (to, bytes))) (sym here) (dite (ℕ_discrete n to)
      (λ is.
      let old : Keeps nodes x (f n r) = subst (λ i. Keeps nodes i (f n r)) (ap (λ m. get_or mids m d) is ∙ sym (get_or_read mids to x inside (subst (λ a. x ≡ get_or mids a x) here read) d)) before in
      let news : get_or (set mids to new) n d ≡ new = ap (λ m. get_or (set mids to new) m d) is ∙ get_or-set_same mids to new d inside in
      let change : puts_one plan kinds to from bytes is_kept (f n r) ≡ one_packet plan kinds n from is_kept (f n r) (to, bytes) =
      ap (λ m. puts_one plan kinds m from bytes is_kept (f n r)) (sym is) ∙ ap (λ b. if b then puts_one plan kinds n from bytes is_kept (f n r) else f n r) (sym (eq-eqb to n (sym is))) in
      subst (λ i. Keeps nodes i (one_packet plan kinds n from is_kept (f n r) (to, bytes))) (sym news) (subst (Keeps nodes new) change (turn nodes (f n r) old)))
      (λ other.
      let news : get_or (set mids to new) n d ≡ get_or mids n d = get_or-set_other mids to n new d other in
      let change : f n r ≡ one_packet plan kinds n from is_kept (f n r) (to, bytes) = ap (λ b. if b then puts_one plan kinds n from bytes is_kept (f n r) else f n r) (sym (ne_eqb to n (λ e. other (sym e)))) in
      subst (λ i. Keeps nodes i (one_packet plan kinds n from is_kept (f n r) (to, bytes))) (sym news) (subst (Keeps nodes (get_or mids n d)) change before)))

  turn_same : (olds news : List Inbox) (f g : ℕ → Received → Received) → ((n : ℕ) (r : Received) → f n r ≡ g n r) → AllTurn olds news f → AllTurn olds news g
  turn_same olds news f g same all = λ n d below nodes r k. subst (Keeps nodes (get_or news n d)) (same n r) (all n d below nodes r k)

  -- one packet to a node's inbox
  pub turn_one : (from : ℕ) (is_kept : Bool) (olds : List Inbox) (at : ℕ) (p : ℕ × List ℕ) (x new : Inbox) → at ≡ p.0 → at < length olds → x ≡ get_or olds at x → Turns x new (puts_one plan kinds p.0 from p.1 is_kept)
      → AllTurn olds (set olds at new) (λ n r. one_packet plan kinds n from is_kept r p)
  turn_one from is_kept olds at p x new here below read turn = turn_step from is_kept olds olds at p.0 p.1 x new (λ n r. r) here refl (omega (arith, below, here)) read turn (λ n d inside nodes r k. k)

  -- a loop's step: the packet at i goes where it goes
  pub step_more : (from : ℕ) (is_kept : Bool) (olds mids news : List Inbox) (p : ℕ × List ℕ) (ps : List (ℕ × List ℕ)) (i : ℕ)
      → i < length ps → p ≡ get_or ps i p → length mids ≡ length olds → AllTurn mids news (λ n r. one_packet plan kinds n from is_kept r p)
      → AllTurn olds mids (λ n r. fold (one_packet plan kinds n from is_kept) r (take i ps)) → AllTurn olds news (λ n r. fold (one_packet plan kinds n from is_kept) r (take (i + 1) ps))
  step_more from is_kept olds mids news p ps i inside is same step all =
      turn_same olds news
      (λ n r. one_packet plan kinds n from is_kept (fold (one_packet plan kinds n from is_kept) r (take i ps)) p)
      (λ n r. fold (one_packet plan kinds n from is_kept) r (take (i + 1) ps))
      (λ n r. ap (one_packet plan kinds n from is_kept (fold (one_packet plan kinds n from is_kept) r (take i ps))) is ∙ sym (fold_more (one_packet plan kinds n from is_kept) r ps i p inside))
      (λ n d below nodes r k. step n d (omega (arith, below, same)) nodes (fold (one_packet plan kinds n from is_kept) r (take i ps)) (all n d below nodes r k))

-- a packet that found no room leaves all as it was
pub turn_back : (olds mids news : List Inbox) (f : ℕ → Received → Received) → length mids ≡ length olds → AllTurn mids news (λ n r. r) → AllTurn olds mids f → AllTurn olds news f
turn_back olds mids news f same back all = λ n d below nodes r k. back n d (omega (arith, below, same)) nodes (f n r) (all n d below nodes r k)

-- one inbox that turned into itself
pub turn_still : (olds : List Inbox) (at : ℕ) (x new : Inbox) → at < length olds → x ≡ get_or olds at x → Turns x new (λ r. r) → AllTurn olds (set olds at new) (λ n r. r)
turn_still olds at x new inside read turn = λ n d below nodes r k.
    dite (ℕ_discrete n at)
    (λ is.
    let old : Keeps nodes x r = subst (λ i. Keeps nodes i r) (ap (λ m. get_or olds m d) is ∙ sym (get_or_read olds at x inside read d)) k in
    let news : get_or (set olds at new) n d ≡ new = ap (λ m. get_or (set olds at new) m d) is ∙ get_or-set_same olds at new d inside in
    subst (λ i. Keeps nodes i r) (sym news) (turn nodes r old))
    (λ other. subst (λ i. Keeps nodes i r) (sym (get_or-set_other olds at n new d other)) k)

-- one inbox turns
pub turn_at : (olds : List Inbox) (at : ℕ) (x new : Inbox) (f : Received → Received) → at < length olds → x ≡ get_or olds at x → Turns x new f
    → AllTurn olds (set olds at new) (λ n r. if at == n then f r else r)
turn_at olds at x new f inside read turn = λ n d below nodes r k.
    dite (ℕ_discrete n at)
    (λ is.
    let old : Keeps nodes x r = subst (λ i. Keeps nodes i r) (ap (λ m. get_or olds m d) is ∙ sym (get_or_read olds at x inside read d)) k in
    let news : get_or (set olds at new) n d ≡ new = ap (λ m. get_or (set olds at new) m d) is ∙ get_or-set_same olds at new d inside in
    let change : f r ≡ (if at == n then f r else r) = ap (λ b. if b then f r else r) (sym (eq-eqb at n (sym is))) in
    subst (λ i. Keeps nodes i (if at == n then f r else r)) (sym news) (subst (Keeps nodes new) change (turn nodes r old)))
    (λ other.
    let change : r ≡ (if at == n then f r else r) = ap (λ b. if b then f r else r) (sym (ne_eqb at n (λ e. other (sym e)))) in
    subst (λ i. Keeps nodes i (if at == n then f r else r)) (sym (get_or-set_other olds at n new d other)) (subst (Keeps nodes (get_or olds n d)) change k))
