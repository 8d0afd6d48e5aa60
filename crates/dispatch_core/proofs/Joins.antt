-- Joins that are dealt to the joiners of a site.
use Rattle.std.proofs.Common.{◌≡◌, ℕ, zero, suc, ◌+◌, ◌%◌, ◌<◌, List, [], ◌∷◌, ◌++◌, map, refl, sym, ap, ◌∙◌, subst, arith}
use Rattle.dispatch_core.proofs.Words.{zip, append_assoc, append-nil, map-append, Click, Packet, Join, Node, To, AnyJoiner, Setting, Config, IsTo, Addressed, DispatcherKept, DispatcherLive, Fresh, join, fresh_joins, trying_joins, fresh_of, joiner_at, dealt, next_after, GoInTurn, Puts, waiting_joins, AreClicksAt, FreshLine, Outbox}

-- ---- one list behind another

dealt_append : (s : ℕ) (c : Config) (k : ℕ) (xs ys : List (ℕ × Click)) → dealt s c k (xs ++ ys) ≡ dealt s c k xs ++ dealt s c (next_after c.joiners k xs) ys
dealt_append s c k [] ys = refl
dealt_append s c k (x ∷ xs) ys = let rest = dealt_append s c ((k + 1) % c.joiners) xs ys in λ i. (joiner_at s c k, Join x.0 x.1) ∷ rest i

next_append : (n k : ℕ) (xs ys : List (ℕ × Click)) → next_after n k (xs ++ ys) ≡ next_after n (next_after n k xs) ys
next_append n k [] ys = refl
next_append n k (x ∷ xs) ys = next_append n ((k + 1) % n) xs ys

pub puts_none : (a : Outbox) → Puts a a []
puts_none a = record { packets = sym (append-nil a.packets.items); next = refl; site = refl; config = refl }

pub puts_more : (a b c : Outbox) (xs ys : List (ℕ × Click)) → Puts a b xs → Puts b c ys → Puts a c (xs ++ ys)
puts_more a b c xs ys p q =
    let from = a.dealer in
    let middle = next_after from.config.joiners from.next xs in
    record {
      packets = q.packets ∙ (λ i. p.packets i ++ dealt (p.site i) (p.config i) (p.next i) ys)
          ∙ append_assoc a.packets.items (dealt from.site from.config from.next xs) (dealt from.site from.config middle ys)
          ∙ ap (λ (l : List (Node × Packet)). a.packets.items ++ l) (sym (dealt_append from.site from.config from.next xs ys));
      next = q.next ∙ (λ i. next_after (p.config i).joiners (p.next i) ys) ∙ sym (next_append from.config.joiners from.next xs ys);
      site = q.site ∙ p.site;
      config = q.config ∙ p.config;
    }

pub waiting_more : (x : FreshLine) (xs : List FreshLine) → waiting_joins (x ∷ []) ++ waiting_joins xs ≡ waiting_joins (x ∷ xs)
waiting_more x xs = grind arith

-- ---- to whom they go

abbrev pub joined : ℕ → ℕ × Click → To × Packet
joined site j = join site j.0 j.1

to_site : (g : Setting) (site k : ℕ) → site < 2 → k < g.config.joiners → IsTo g (AnyJoiner site) (joiner_at site g.config k)
to_site g (suc (suc s)) k two below = absurd (omega (arith, two))
to_site g _ k two below = grind arith

pub addressed : (g : Setting) (site : ℕ) (c : Config) (k : ℕ) → g.config ≡ c → site < 2 → k < c.joiners → ((m : ℕ) → m % c.joiners < c.joiners) → (js : List (ℕ × Click)) → Addressed g (map (joined site) js) (dealt site c k js)
addressed g site c k is two below wraps [] = tt
addressed g site c k is two below wraps (j ∷ js) =
    ((subst (λ (x : Config). k < x.joiners → IsTo g (AnyJoiner site) (joiner_at site x k)) is (to_site g site k two) below, refl), addressed g site c ((k + 1) % c.joiners) is two (wraps (k + 1)) wraps js)

-- ---- the Joins of a Tick

pub waiting_are : (g : Setting) (site : ℕ) (k : DispatcherKept) (l : DispatcherLive) (xs : List FreshLine) → map (joined site) (waiting_joins xs) ≡ fresh_joins g site k l (map fresh_of xs)
waiting_are g site k l [] = refl
waiting_are g site k l (x ∷ xs) = grind (arith, waiting_are g site k l xs)

pub trying_are : (g : Setting) (site : ℕ) (k : DispatcherKept) (l : DispatcherLive) (ps : List ℕ) (cs : List Click) → AreClicksAt g ps cs → map (joined site) (zip ps cs) ≡ trying_joins g site k l ps
trying_are g site k l [] [] h = refl
trying_are g site k l (p ∷ ps) (c ∷ cs) h = grind (arith, trying_are g site k l ps cs h.1)
trying_are g site k l _ _ h = absurd h

pub tick_are : (g : Setting) (site : ℕ) (k : DispatcherKept) (l : DispatcherLive) (xs : List FreshLine) (fs : List Fresh) (ps qs : List ℕ) (cs : List Click) → map fresh_of xs ≡ fs → ps ≡ qs → AreClicksAt g qs cs
    → map (joined site) (waiting_joins xs ++ zip ps cs) ≡ fresh_joins g site k l fs ++ trying_joins g site k l qs
tick_are g site k l xs fs ps qs cs f p h =
    map-append (joined site) (waiting_joins xs) (zip ps cs)
    ∙ (λ i. (waiting_are g site k l xs ∙ ap (fresh_joins g site k l) f) i ++ (ap (λ (q : List ℕ). map (joined site) (zip q cs)) p ∙ trying_are g site k l qs cs h) i)

-- ---- in turn

pub in_turn : (site : ℕ) (c : Config) (k e : ℕ) (js : List (ℕ × Click)) → e ≡ next_after c.joiners k js → GoInTurn site c k (dealt site c k js) e
in_turn site c k e [] h = h
in_turn site c k e (j ∷ js) h = (refl, in_turn site c ((k + 1) % c.joiners) e js h)

pub next_below : (n k : ℕ) (js : List (ℕ × Click)) → k < n → ((m : ℕ) → m % n < n) → next_after n k js < n
next_below n k [] below wraps = below
next_below n k (j ∷ js) below wraps = next_below n ((k + 1) % n) js (wraps (k + 1)) wraps
