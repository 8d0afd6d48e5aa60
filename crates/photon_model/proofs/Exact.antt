-- From the empty store, at rest, the report is that of the two logs, but for missing clicks.
use Rattle.std.proofs.Common.{◌≡◌, ◌⊎◌, inl, inr, ⊎_elim, ℕ, zero, suc, ◌*◌, ◌≤◌, List, [], ◌∷◌, map, Some, None, refl, sym, ap, ◌∙◌, subst, arith, lit<, Option, slice_get, nat_lt, Ordering}
use Rattle.std.specs.FinMap as finite
use Rattle.std.proofs.lemmas.Bool.{cond_both, cases_lt, ltb-true, ltb-false}
use Rattle.photon_model.proofs.Words.{EventId, id_cmp, Token, Batch, IsGranted, bound_of, bound_at, holder, first_insert, granted_means, holder_granted, Mem, some_same, none_some, each_at, Query, Click, ClickLine, first, J, M, PairRec, Setting, Checked, first_joiner, shard, shard_below, SoundStore, PairSound, IsWritten, known_of, values_of, known, all_pairs, pair_of, line_by, line_of, unwritten_line, IsAtRest, World, Entry, Disks, disks, world_after, IsRun, opening, empty_disks, AllFactsHold, HasBounds, RestLeaves, decided_in}
use Rattle.time_shards.specs.Shards.{IsTable}
use Rattle.log_records.specs.Report as logs
use Rattle.log_records.proofs.Distinct.{made, made_nil, made_cons}
use Rattle.photon_model.specs.Exact.{IsExact, AtRestFromEmpty, ClicksAreExact, ReportIsExact}
use Rattle.photon_model.proofs.Storing.{empty_sound}
use Rattle.photon_model.proofs.Closing.{sound_closes}
use Rattle.photon_model.proofs.Running.{drained}
use Rattle.photon_model.proofs.Agreeing.{every_run_holds, granted_drawn, decided_bound}
use Rattle.photon_model.proofs.Resting.{rest_is_done}
use Rattle.photon_model.proofs.Finding.{find_some}
use Rattle.photon_model.proofs.Showing.{from_log, to_log, found, not_found}

-- a value's bound is not above the bound up to it
bound_within : (vs : List Batch) (k : ℕ) (v : Batch) → slice_get vs k ≡ Some v → v.bound ≤ bound_at vs k
bound_within [] k v e = none_some v e
bound_within (x ∷ vs) zero v e = let q : x.bound ≡ v.bound = ap (λ (y : Batch). y.bound) (some_same x v e) in omega arith
bound_within (x ∷ vs) (suc k) v e = let q = bound_within vs k v e in omega arith

module _ (g : Setting) (es : List Entry) (c : Checked g) (t : IsTable g.config.table) (r : IsRun g (opening empty_disks) es) (rest : IsAtRest g (world_after g (opening empty_disks) es)) where
  abbrev w : World
  w = world_after g (opening empty_disks) es

  abbrev d : Disks
  d = disks w

  sound : SoundStore g empty_disks
  sound = sound_closes g empty_disks [] (empty_sound g)

  none_old : HasBounds g empty_disks []
  none_old = λ r at b v lt m. m

  facts : AllFactsHold g w
  facts = every_run_holds g empty_disks _ es c sound r

  leaves : RestLeaves g empty_disks es [] w
  leaves = rest_is_done g empty_disks es [] c sound none_old r rest

  module _ (l : ClickLine) (m : Mem l g.clicks) where
    abbrev i : EventId
    i = l.click.id

    abbrev vs : List Batch
    vs = decided_in g w (shard g i)

    bound_is : bound_of vs ≡ g.config.horizon
    bound_is = ⊎_elim (λ e. e) (λ x. absurd x) (leaves.bounds (shard g i) (shard_below g i t)).1

    granted_young : (u : Token) → IsGranted vs i u → g.config.horizon ≤ i.micros
    granted_young u (k, (v, e, n), a) =
        let bound = ⊎_elim {C = v.bound ≡ g.config.horizon} (λ q. q) (λ x. absurd x) (decided_bound g empty_disks _ [] es c sound none_old r (shard g i) k v e) in
        let low = (granted_means vs i u k (v, e, n) a).0 in
        let within = bound_within vs k v e in
        omega arith

    -- a click of this id is this one
    one_click : (x : Click) → ((y : ClickLine) × Mem y g.clicks × (y.click ≡ x)) → x.id ≡ i → x ≡ l.click
    one_click x (y, n, e) same = sym e ∙ c.no_conflict y l n m (ap (λ (z : Click). z.id) e ∙ same)

    logs_young : g.config.horizon ≤ i.micros → (o : Option Query) → first g.queries l.click.query ≡ o → logs.line_of g.queries g.config.horizon l.click ≡ logs.pair_or_none l.click o
    logs_young le o e = grind arith

    -- a written click
    with_pair : (p : PairRec) → pair_of g d i ≡ Some p → line_by g d i (Some p) ≡ logs.line_of g.queries g.config.horizon l.click
    with_pair p e =
        let f = found (all_pairs g d) i p e in
        let x = from_log d (first_joiner g) (2 * g.config.joiners) p f.0 in
        let s = each_at (PairSound g (known g w facts.0) x.0 (w.joiners x.0).kept.epoch) (w.joiners x.0).kept.pairs (facts.2.joiners x.0 (x.1, x.2)).kept.pairs p x.3 in
        let granted = subst (λ (k : EventId). IsGranted (values_of g (known g w facts.0) k) k p.token) f.1 s.granted in
        let line = s.own_query.0 in
        let same = one_click p.click (line.0, (find_some _ g.clicks line.0 line.1).0, line.2) f.1 in
        ap (λ (k : Click). J k p.query) same ∙ sym (logs_young (granted_young p.token granted) (Some p.query) (ap (λ (k : Click). first g.queries k.query) (sym same) ∙ s.own_query.1))

    no_pair : pair_of g d i ≡ None → IsWritten g (known_of g d []) i → ⊥
    no_pair e (j, p, is, n, same) = not_found (all_pairs g d) i p e (to_log d (first_joiner g) (2 * g.config.joiners) j p is.0 is.1 n) same

    holder_young : g.config.horizon ≤ i.micros → holder vs i ≡ first_insert vs i
    holder_young le = cond_both (nat_lt i.micros (bound_of vs)) None (first_insert vs i) (λ o. o ≡ first_insert vs i) (λ q. let lt = ltb-true i.micros (bound_of vs) q in let b = bound_is in absurd (omega arith)) (λ _. refl)

    -- a registered click has a query
    has_query : (u : Token) → g.config.horizon ≤ i.micros → first_insert vs i ≡ Some u → (q : Query) × (first g.queries l.click.query ≡ Some q)
    has_query u le e =
        let b = bound_is in
        let granted = holder_granted vs i u (omega arith) e in
        let j = facts.2.drawing.joinable (record { id = i; token = u }) (granted_drawn g w facts.0 facts.1 facts.2 facts.3 i u granted) in
        let same = c.no_conflict j.0 l j.1 m j.2 in
        (j.3.0, ap (λ (k : Click). first g.queries k.query) (sym same) ∙ j.3.1)

    -- a click with a query that is not written is registered
    not_forgotten : pair_of g d i ≡ None → g.config.horizon ≤ i.micros → first_insert vs i ≡ None → (q : Query) → first g.queries l.click.query ≡ Some q → ⊥
    not_forgotten e le none_ q f =
        let b = bound_is in
        ⊎_elim (λ x. no_pair e x) (λ x. none_some x.0.0 (sym (holder_young le ∙ none_) ∙ x.0.1))
        (drained g w facts.0 c facts.2 0 (lit< tt) (leaves.drained 0 (lit< tt)) l q m f (λ lt. absurd (omega arith)))

    young : pair_of g d i ≡ None → g.config.horizon ≤ i.micros → (o : Option Token) → first_insert vs i ≡ o → (f : Option Query) → first g.queries l.click.query ≡ f
        → (unwritten_line g d i ≡ logs.line_of g.queries g.config.horizon l.click) ⊎ ((unwritten_line g d i ≡ M i) × (g.config.horizon ≤ i.micros) × ((q : Query) × (first g.queries l.click.query ≡ Some q)))
    young e le o k f n = grind (arith, holder_young, has_query, not_forgotten, bound_is)

    pub click_is_exact : IsExact g d l.click
    click_is_exact = grind (arith, with_pair, cond_both, ltb-false, bound_is, young, cases_lt)

pub clicks_are_exact : AtRestFromEmpty ClicksAreExact
clicks_are_exact g es c t r rest l m = click_is_exact g es c t r rest l m

-- ---- the whole report

-- the values of a map's entries after an insert
put_value : {K V : Type 0} (R : K → K → Ordering) (es : List (K × V)) (k : K) (v x : V) → Mem x (map (λ e. e.1) (finite.put R k v es)) → (v ≡ x) ⊎ Mem x (map (λ e. e.1) es)
put_value R [] k v x n = n
put_value {K} {V} R (e ∷ es) k v x n = grind (arith, put_value R es k v x)

-- a distinct click is one of the log
distinct_mem : (cs : List Click) (x : Click) → Mem x (logs.distinct cs) → Mem x cs
distinct_mem [] x n = subst (λ (es : List (EventId × Click)). Mem x (map (λ e. e.1) es)) made_nil n
distinct_mem (c ∷ cs) x n =
    ⊎_elim (λ a. inl a) (λ a. inr (distinct_mem cs x a))
    (put_value id_cmp (made cs) c.id c x (subst (λ (es : List (EventId × Click)). Mem x (map (λ e. e.1) es)) (made_cons c cs) n))

map_same : {A B : Type 0} (f h : A → B) (xs : List A) → ((x : A) → Mem x xs → f x ≡ h x) → map f xs ≡ map h xs
map_same f h [] e = refl
map_same {A} {B} f h (x ∷ xs) e = let a = e x (inl refl) in let rest = map_same f h xs (λ y n. e y (inr n)) in λ k. a k ∷ rest k

line_from : (ls : List ClickLine) (x : Click) → Mem x (map (λ (l : ClickLine). l.click) ls) → (l : ClickLine) × Mem l ls × (l.click ≡ x)
line_from [] x n = absurd n
line_from (l ∷ ls) x h = grind (arith, line_from ls x)

pub report_is_exact : AtRestFromEmpty ReportIsExact
report_is_exact g es c t r rest none_missing =
    map_same (λ (x : Click). line_of g (disks (world_after g (opening empty_disks) es)) x.id) (logs.line_of g.queries g.config.horizon) (logs.distinct clicks) each
  where
    clicks : List Click
    clicks = map (λ (l : ClickLine). l.click) g.clicks

    each : (x : Click) → Mem x (logs.distinct clicks) → line_of g (disks (world_after g (opening empty_disks) es)) x.id ≡ logs.line_of g.queries g.config.horizon x
    each x n =
        let h = line_from g.clicks x (distinct_mem clicks x n) in
        grind (arith, clicks_are_exact)
