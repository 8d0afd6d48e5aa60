-- What a queue's parcels do when one is put, ripens or is taken.
use Rattle.std.proofs.Common.{◌≡◌, ◌⊎◌, ⊎_elim, inl, inr, ℕ, ◌+◌, ◌-◌, ◌<◌, ◌≤◌, ◌==◌, ◌&&◌, ◌||◌, Bool, true, false, cond, List, [], ◌∷◌, ◌++◌, ◌↔◌, length, get_or, map, Some, None, refl, sym, ap, ◌∙◌, subst, arith}
use Rattle.std.specs.Prelude.{Option, IsSome, IfSome, option_map, nat_le, nat_lt, sum_by}
use Rattle.air_bus.proofs.Words.{All, Ordering, Bor, nat_cmp, on, flip_args, then_cmp, is_lt, IsUpperBound, All-from_recursion, bytes_eq, true≢false, leb-true, ltb-true, le-leb, lt-ltb, eq-eqb, cases_lt, and_from, or_left, or_right, or_cases, bytes_eq-Decides, map-append, length-map, sum_by-append, sum_by-cons, sum_by-le, get_or-le-sum_by, Each, EachPair, each_append, each_more, pairs_push, Parcel, Copy, next_copy, left_by, sooner, copy_at, AreTogether, Stands}
use Rattle.air_bus.proofs.Least.{next_is, left_is}

-- the order of a heap: what is due later is less, and so is what arrived later
abbrev pub by_due : Parcel → Parcel → Ordering
by_due = then_cmp (flip_args (on (λ (p : Parcel). p.due) nat_cmp)) (flip_args (on (λ (p : Parcel). p.place) nat_cmp))

-- ---- lists with one element in the middle

each_left : {A : Type 0} (P : A → Type 0) (before : List A) (x : A) (after : List A) → Each P (before ++ x ∷ after) → Each P before
each_left P [] x after e = tt
each_left P (b ∷ before) x after e = (e.0, each_left P before x after e.1)

each_right : {A : Type 0} (P : A → Type 0) (before : List A) (x : A) (after : List A) → Each P (before ++ x ∷ after) → P x × Each P after
each_right P [] x after e = e
each_right P (b ∷ before) x after e = each_right P before x after e.1

each_without : {A : Type 0} (P : A → Type 0) (before : List A) (x : A) (after : List A) → Each P (before ++ x ∷ after) → Each P (before ++ after)
each_without P before x after e = each_append P before after (each_left P before x after e) (each_right P before x after e).1

pairs_left : {A : Type 0} (R : A → A → Type 0) (before : List A) (x : A) (after : List A) → EachPair R (before ++ x ∷ after) → Each (λ b. R b x) before
pairs_left R [] x after e = tt
pairs_left R (b ∷ before) x after e = ((each_right (λ y. R b y) before x after e.0).0, pairs_left R before x after e.1)

pairs_without : {A : Type 0} (R : A → A → Type 0) (before : List A) (x : A) (after : List A) → EachPair R (before ++ x ∷ after) → EachPair R (before ++ after)
pairs_without R [] x after e = e.1
pairs_without R (b ∷ before) x after e = (each_without (λ y. R b y) before x after e.0, pairs_without R before x after e.1)

each_replaced : {A : Type 0} (P : A → Type 0) (before : List A) (x y : A) (after : List A) → (P x → P y) → Each P (before ++ x ∷ after) → Each P (before ++ y ∷ after)
each_replaced P before x y after h e = grind (arith, each_right, each_append, each_left)

pairs_replaced : {A : Type 0} (R : A → A → Type 0) (before : List A) (x y : A) (after : List A) → ((a : A) → R a x → R a y) → ((a : A) → R x a → R y a)
    → EachPair R (before ++ x ∷ after) → EachPair R (before ++ y ∷ after)
pairs_replaced R [] x y after l r e = (each_more (λ a. R x a) (λ a. R y a) after r e.0, e.1)
pairs_replaced R (b ∷ before) x y after l r e = (each_replaced (λ a. R b a) before x y after (l b) e.0, pairs_replaced R before x y after l r e.1)

sum_middle : {A : Type 0} (f : A → ℕ) (before : List A) (x : A) (after : List A) → sum_by f (before ++ x ∷ after) ≡ f x + sum_by f (before ++ after)
sum_middle f before x after = grind (arith, sum_by-append, sum_by-cons)

map_middle : {A B : Type 0} (f : A → B) (before : List A) (x y : A) (after : List A) → f x ≡ f y → map f (before ++ x ∷ after) ≡ map f (before ++ y ∷ after)
map_middle f before x y after is = map-append f before (x ∷ after) ∙ ap (λ z. map f before ++ z ∷ map f after) is ∙ sym (map-append f before (y ∷ after))

-- ---- a parcel among others

is_parcel : Parcel → Parcel → Bool
is_parcel x p = (p.due == x.due) && ((p.place == x.place) && ((p.from == x.from) && bytes_eq p.bytes x.bytes))

is_parcel-true : (x p : Parcel) → is_parcel x p ≡ true → p ≡ x
unfolding is_parcel
is_parcel-true x p t = grind (arith, bytes_eq-Decides)

is_parcel-self : (x : Parcel) → is_parcel x x ≡ true
unfolding is_parcel
is_parcel-self x = and_from _ _ (eq-eqb x.due x.due refl) (and_from _ _ (eq-eqb x.place x.place refl) (and_from _ _ (eq-eqb x.from x.from refl) ((bytes_eq-Decides x.bytes x.bytes).1 refl)))

abbrev hit : Bool → ℕ
hit b = cond b 1 0

abbrev miss : Bool → ℕ
miss b = cond b 0 1

record Split (x : Parcel) (ps : List Parcel) : Type 0 where
  before : List Parcel
  after : List Parcel
  is : ps ≡ before ++ x ∷ after

split : (x : Parcel) (ps : List Parcel) → 0 < sum_by (λ (p : Parcel). hit (is_parcel x p)) ps → Split x ps
split x [] h = absurd (omega arith)
split x (p ∷ ps) h = go (λ rest. split x ps rest) (is_parcel x p) refl
  where
    go : (0 < sum_by (λ (p : Parcel). hit (is_parcel x p)) ps → Split x ps) → (b : Bool) → is_parcel x p ≡ b → Split x (p ∷ ps)
    go more true e = record { before = []; after = ps; is = ap (λ q. q ∷ ps) (is_parcel-true x p e) }
    go more false e =
        let rest : 0 < sum_by (λ (p : Parcel). hit (is_parcel x p)) ps = omega (arith, h, sum_by-cons (λ (p : Parcel). hit (is_parcel x p)) p ps, ap hit e) in
        let s = more rest in
        record { before = p ∷ s.before; after = s.after; is = ap (λ qs. p ∷ qs) s.is }

-- what the heaps hold stands in the list
split_of : (ready late ps : List Parcel) (x : Parcel) → AreTogether ready late ps → ((f : Parcel → ℕ) → f x ≤ sum_by f ready + sum_by f late) → Split x ps
split_of ready late ps x together among = grind (arith, split, is_parcel-self)

-- ---- a test of each parcel

sum_zero : (t : Parcel → Bool) (ps : List Parcel) → All (λ (p : Parcel). t p ≡ true) ps → sum_by (λ (p : Parcel). miss (t p)) ps ≡ 0
sum_zero t ps all =
    let low = sum_by-le (λ (p : Parcel). miss (t p)) 0 ps (λ k d inside. omega (arith, ap miss (all k d inside))) in
    omega (arith, low)

each_zero : (t : Parcel → Bool) (ps : List Parcel) → sum_by (λ (p : Parcel). miss (t p)) ps ≡ 0 → Each (λ (p : Parcel). t p ≡ true) ps
each_zero t [] z = tt
each_zero t (p ∷ ps) z =
    let sum = sum_by-cons (λ (p : Parcel). miss (t p)) p ps in
    let here : t p ≡ true = go (t p) refl (omega (arith, sum, z)) in
    (here, each_zero t ps (omega (arith, sum, z)))
  where
    go : (b : Bool) → t p ≡ b → miss (t p) ≡ 0 → t p ≡ true
    go b e s = grind arith

each_together : (t : Parcel → Bool) (ready late ps : List Parcel) → AreTogether ready late ps → All (λ (p : Parcel). t p ≡ true) ready → All (λ (p : Parcel). t p ≡ true) late
    → Each (λ (p : Parcel). t p ≡ true) ps
each_together t ready late ps together r l = grind (arith, each_zero, sum_zero)

-- ---- what stands

-- there are as many copies as parcels in the heaps
count_stand : (taken next : ℕ) (ready late : List Parcel) (copies : List Copy) → Stands taken next ready late copies → length ready + length late ≡ length copies
count_stand taken next ready late copies s =
    omega (arith, s.together.each (λ p. 1), sum_one ready, sum_one late, sum_one s.parcels, ap length s.copies_is, length-map s.parcels (copy_at taken))
  where
    sum_one : (ps : List Parcel) → sum_by (λ (p : Parcel). 1) ps ≡ length ps
    sum_one [] = refl
    sum_one (p ∷ ps) = omega (arith, sum_by-cons (λ (p : Parcel). 1) p ps, sum_one ps)

pub empty_stand : (taken next : ℕ) (ready late : List Parcel) (copies : List Copy) → Stands taken next ready late copies → length ready + length late ≡ 0 → copies ≡ []
empty_stand taken next ready late copies s none = empty copies (omega (arith, count_stand taken next ready late copies s))
  where
    empty : (cs : List Copy) → length cs ≡ 0 → cs ≡ []
    empty [] e = refl
    empty (c ∷ cs) e = absurd (omega (arith, e))

pub stand_empty : (taken next : ℕ) (ready late : List Parcel) (copies : List Copy) → Stands taken next ready late copies → copies ≡ [] → length ready + length late ≡ 0
stand_empty taken next ready late copies s none = omega (arith, count_stand taken next ready late copies s, ap length none)

-- one parcel more, the last
pub put_stands : (taken next : ℕ) (ready late ready' late' : List Parcel) (p : Parcel) (copies : List Copy) → p.place ≡ next
    → ((f : Parcel → ℕ) → sum_by f ready' + sum_by f late' ≡ f p + (sum_by f ready + sum_by f late))
    → Stands taken next ready late copies → Stands taken (next + 1) ready' late' (copies ++ copy_at taken p ∷ [])
put_stands taken next ready late ready' late' p copies place grew s =
    let last : p.place < next + 1 = omega (arith, place) in record {
      parcels = s.parcels ++ p ∷ [];
      together = record { each = λ f. omega (arith, grew f, s.together.each f, sum_by-append f s.parcels (p ∷ []), sum_by-cons f p []) };
      ascend = pairs_push (λ (a b : Parcel). a.place < b.place) s.parcels p s.ascend (each_more (λ (q : Parcel). q.place < next) (λ (q : Parcel). q.place < p.place) s.parcels (λ q l. omega (arith, place)) s.arrived);
      arrived = each_append (λ (q : Parcel). q.place < next + 1) s.parcels (p ∷ []) (each_more (λ (q : Parcel). q.place < next) (λ (q : Parcel). q.place < next + 1) s.parcels (λ q l. omega arith) s.arrived) (last, tt);
      copies_is = ap (λ cs. cs ++ copy_at taken p ∷ []) s.copies_is ∙ sym (map-append (copy_at taken) s.parcels (p ∷ []));
    }

-- a parcel that was late stands for one that is ready
pub ripe_stands : (taken next : ℕ) (ready late ready' late' : List Parcel) (x y : Parcel) (copies : List Copy) → y.place ≡ x.place → copy_at taken x ≡ copy_at taken y
    → ((f : Parcel → ℕ) → f x + sum_by f late' ≡ sum_by f late) → ((f : Parcel → ℕ) → sum_by f ready' ≡ f y + sum_by f ready)
    → Stands taken next ready late copies → Stands taken next ready' late' copies
ripe_stands taken next ready late ready' late' x y copies place same fell grew s =
    let at = split_of ready late s.parcels x s.together (λ f. omega (arith, fell f)) in
    let old = s.parcels in
    let ascend : EachPair (λ (a b : Parcel). a.place < b.place) (at.before ++ x ∷ at.after) = subst (EachPair (λ (a b : Parcel). a.place < b.place)) at.is s.ascend in
    let arrived : Each (λ (p : Parcel). p.place < next) (at.before ++ x ∷ at.after) = subst (Each (λ (p : Parcel). p.place < next)) at.is s.arrived in record {
      parcels = at.before ++ y ∷ at.after;
      together = record { each = λ f. omega (arith, fell f, grew f, s.together.each f, ap (sum_by f) at.is, sum_middle f at.before x at.after, sum_middle f at.before y at.after) };
      ascend = pairs_replaced (λ (a b : Parcel). a.place < b.place) at.before x y at.after (λ a l. omega (arith, place)) (λ a l. omega (arith, place)) ascend;
      arrived = each_replaced (λ (p : Parcel). p.place < next) at.before x y at.after (λ l. omega (arith, place)) arrived;
      copies_is = s.copies_is ∙ ap (map (copy_at taken)) at.is ∙ map_middle (copy_at taken) at.before x y at.after same;
    }

-- ---- the one to be taken

-- p has no less delay than x, and more where it arrived before
abbrev pub IsLater : ℕ → Parcel → Parcel → Type 0
IsLater taken x p = (x.due - taken ≤ p.due - taken) × ((x.place ≤ p.place) ⊎ (x.due - taken < p.due - taken))

-- x is in the heaps, none has less delay, and none of the same delay arrived before it
pub record IsLeast (taken : ℕ) (ready late : List Parcel) (x : Parcel) : Type 0 where
  pub among : (f : Parcel → ℕ) → f x ≤ sum_by f ready + sum_by f late
  pub ready_later : All (λ (p : Parcel). IsLater taken x p) ready
  pub late_later : All (λ (p : Parcel). IsLater taken x p) late

not_less : ℕ → Parcel → Parcel → Bool
not_less taken x p = nat_le (x.due - taken) (p.due - taken)

not_before : ℕ → Parcel → Parcel → Bool
not_before taken x p = nat_le x.place p.place || nat_lt (x.due - taken) (p.due - taken)

not_less_all : (taken : ℕ) (x : Parcel) (ps : List Parcel) → All (λ (p : Parcel). IsLater taken x p) ps → All (λ (p : Parcel). not_less taken x p ≡ true) ps
unfolding not_less
not_less_all taken x ps all = λ k d inside. le-leb _ _ (all k d inside).0

not_before_all : (taken : ℕ) (x : Parcel) (ps : List Parcel) → All (λ (p : Parcel). IsLater taken x p) ps → All (λ (p : Parcel). not_before taken x p ≡ true) ps
unfolding not_before
not_before_all taken x ps all = λ k d inside. ⊎_elim (λ l. or_left _ _ (le-leb _ _ l)) (λ l. or_right _ _ (lt-ltb _ _ l)) (all k d inside).1

-- the parcels before x have more delay, and those after it no less
record Around (taken : ℕ) (ps : List Parcel) (x : Parcel) : Type 0 where
  at : Split x ps
  sooner_none : Each (λ (p : Parcel). x.due - taken < p.due - taken) at.before
  later_all : Each (λ (p : Parcel). x.due - taken ≤ p.due - taken) at.after

around : (taken next : ℕ) (ready late : List Parcel) (copies : List Copy) (s : Stands taken next ready late copies) (x : Parcel) → IsLeast taken ready late x → Around taken s.parcels x
unfolding not_less not_before
around taken next ready late copies s x least =
    let at = split_of ready late s.parcels x s.together least.among in
    let ascend : EachPair (λ (a b : Parcel). a.place < b.place) (at.before ++ x ∷ at.after) = subst (EachPair (λ (a b : Parcel). a.place < b.place)) at.is s.ascend in
    let less : Each (λ (p : Parcel). not_less taken x p ≡ true) (at.before ++ x ∷ at.after) = subst (Each (λ (p : Parcel). not_less taken x p ≡ true)) at.is (each_together (not_less taken x) ready late s.parcels s.together (not_less_all taken x ready least.ready_later) (not_less_all taken x late least.late_later)) in
    let before : Each (λ (p : Parcel). not_before taken x p ≡ true) (at.before ++ x ∷ at.after) = subst (Each (λ (p : Parcel). not_before taken x p ≡ true)) at.is (each_together (not_before taken x) ready late s.parcels s.together (not_before_all taken x ready least.ready_later) (not_before_all taken x late least.late_later)) in record {
      at = at;
      sooner_none = each_both (λ (p : Parcel). p.place < x.place) (λ (p : Parcel). not_before taken x p ≡ true) (λ (p : Parcel). x.due - taken < p.due - taken)
          (λ p l b. ⊎_elim (λ (t : nat_le x.place p.place ≡ true). absurd (omega (arith, l, leb-true x.place p.place t))) (λ t. ltb-true _ _ t) (or_cases _ _ b))
          at.before (pairs_left (λ (a b : Parcel). a.place < b.place) at.before x at.after ascend) (each_left (λ (p : Parcel). not_before taken x p ≡ true) at.before x at.after before);
      later_all = each_more (λ (p : Parcel). not_less taken x p ≡ true) (λ (p : Parcel). x.due - taken ≤ p.due - taken) at.after (λ p t. leb-true _ _ t) (each_right (λ (p : Parcel). not_less taken x p ≡ true) at.before x at.after less).1;
    }
  where
    each_both : (P Q R : Parcel → Type 0) → ((p : Parcel) → P p → Q p → R p) → (ps : List Parcel) → Each P ps → Each Q ps → Each R ps
    each_both P Q R h [] a b = tt
    each_both P Q R h (p ∷ ps) a b = (h p a.0 b.0, each_both P Q R h ps a.1 b.1)

each_mapped : {A B : Type 0} (f : A → B) (P : B → Type 0) (xs : List A) → Each (λ x. P (f x)) xs → Each P (map f xs)
each_mapped f P [] e = tt
each_mapped f P (x ∷ xs) e = (e.0, each_mapped f P xs e.1)

-- the copies around that of x
copies_around : (taken next : ℕ) (ready late : List Parcel) (copies : List Copy) (s : Stands taken next ready late copies) (x : Parcel) (a : Around taken s.parcels x)
    → copies ≡ map (copy_at taken) a.at.before ++ copy_at taken x ∷ map (copy_at taken) a.at.after
copies_around taken next ready late copies s x a = s.copies_is ∙ ap (map (copy_at taken)) a.at.is ∙ map-append (copy_at taken) a.at.before (x ∷ a.at.after)

pub next_stands : (taken next : ℕ) (ready late : List Parcel) (copies : List Copy) (x : Parcel) → IsLeast taken ready late x → Stands taken next ready late copies
    → next_copy copies ≡ Some (copy_at taken x)
next_stands taken next ready late copies x least s =
    let a = around taken next ready late copies s x least in
    ap next_copy (copies_around taken next ready late copies s x a) ∙ next_is (map (copy_at taken) a.at.before) (copy_at taken x) (map (copy_at taken) a.at.after)
    (each_mapped (copy_at taken) (λ (c : Copy). x.due - taken < c.delay) a.at.before a.sooner_none)
    (each_mapped (copy_at taken) (λ (c : Copy). x.due - taken ≤ c.delay) a.at.after a.later_all)

sooner_map : (taken : ℕ) (ps : List Parcel) → map sooner (map (copy_at taken) ps) ≡ map (copy_at (taken + 1)) ps
sooner_map taken [] = refl
sooner_map taken (p ∷ ps) = grind (arith, sooner_map taken ps)

-- it is taken, and the clock goes on
pub taken_stands : (taken next : ℕ) (ready late ready' late' : List Parcel) (copies : List Copy) (x : Parcel) → IsLeast taken ready late x
    → ((f : Parcel → ℕ) → f x + (sum_by f ready' + sum_by f late') ≡ sum_by f ready + sum_by f late)
    → Stands taken next ready late copies → Stands (taken + 1) next ready' late' (left_by copies)
taken_stands taken next ready late ready' late' copies x least fell s =
    let a = around taken next ready late copies s x least in
    let ascend : EachPair (λ (a b : Parcel). a.place < b.place) (a.at.before ++ x ∷ a.at.after) = subst (EachPair (λ (a b : Parcel). a.place < b.place)) a.at.is s.ascend in
    let arrived : Each (λ (p : Parcel). p.place < next) (a.at.before ++ x ∷ a.at.after) = subst (Each (λ (p : Parcel). p.place < next)) a.at.is s.arrived in record {
      parcels = a.at.before ++ a.at.after;
      together = record { each = λ f. omega (arith, fell f, s.together.each f, ap (sum_by f) a.at.is, sum_middle f a.at.before x a.at.after) };
      ascend = pairs_without (λ (a b : Parcel). a.place < b.place) a.at.before x a.at.after ascend;
      arrived = each_without (λ (p : Parcel). p.place < next) a.at.before x a.at.after arrived;
      copies_is =
          ap left_by (copies_around taken next ready late copies s x a) ∙ left_is (map (copy_at taken) a.at.before) (copy_at taken x) (map (copy_at taken) a.at.after)
          (each_mapped (copy_at taken) (λ (c : Copy). x.due - taken < c.delay) a.at.before a.sooner_none)
          (each_mapped (copy_at taken) (λ (c : Copy). x.due - taken ≤ c.delay) a.at.after a.later_all)
          ∙ ap (map sooner) (sym (map-append (copy_at taken) a.at.before a.at.after)) ∙ sooner_map taken (a.at.before ++ a.at.after);
    }

-- nothing is there to be taken
pub none_taken : (taken next : ℕ) (ready late : List Parcel) (copies : List Copy) → length ready + length late ≡ 0 → Stands taken next ready late copies
    → (next_copy copies ≡ None) × Stands taken next ready late (left_by copies)
none_taken taken next ready late copies none s =
    let is = empty_stand taken next ready late copies s none in
    (ap next_copy is, subst (Stands taken next ready late) (is ∙ sym (ap left_by is)) s)

-- what the order of a heap says of its greatest
later_of : (x p : Parcel) → is_lt (by_due x p) ≡ false → (x.due < p.due) ⊎ ((x.due ≡ p.due) × (x.place ≤ p.place))
later_of x p f = grind arith

pub ready_least : (taken : ℕ) (ready late : List Parcel) (x : Parcel) → All (λ (p : Parcel). p.due ≡ 0) ready → All (λ (p : Parcel). taken < p.due) late
    → x.due ≡ 0 → IsUpperBound by_due x ready → ((f : Parcel → ℕ) → f x ≤ sum_by f ready) → IsLeast taken ready late x
ready_least taken ready late x due is_late zero bound among =
    let all = All-from_recursion (λ (p : Parcel). is_lt (by_due x p) ≡ false) ready bound in record {
      among = λ f. omega (arith, among f);
      ready_later = λ k d inside. (omega (arith, zero), ⊎_elim (λ l. absurd (omega (arith, l, due k d inside))) (λ l. inl l.1) (later_of x (get_or ready k d) (all k d inside)));
      late_later = λ k d inside. (omega (arith, zero), inr (omega (arith, zero, is_late k d inside)));
    }

pub late_least : (taken : ℕ) (ready late : List Parcel) (x : Parcel) → length ready ≡ 0 → All (λ (p : Parcel). taken < p.due) late
    → taken < x.due → IsUpperBound by_due x late → ((f : Parcel → ℕ) → f x ≤ sum_by f late) → IsLeast taken ready late x
late_least taken ready late x none is_late due bound among =
    let all = All-from_recursion (λ (p : Parcel). is_lt (by_due x p) ≡ false) late bound in record {
      among = λ f. omega (arith, among f);
      ready_later = λ k d inside. absurd (omega (arith, none, inside));
      late_later = λ k d inside. ⊎_elim (λ l. (omega (arith, l), inr (omega (arith, l, due)))) (λ l. (omega (arith, l.0), inl l.1)) (later_of x (get_or late k d) (all k d inside));
    }

-- an element that is the first
pub first_among : (xs : List Parcel) (x : Parcel) → x ≡ get_or xs 0 x → 0 < length xs → (f : Parcel → ℕ) → f x ≤ sum_by f xs
first_among xs x is some f = omega (arith, ap f is, get_or-le-sum_by f xs 0 x some)

pub first_each : (P : Parcel → Type 0) (xs : List Parcel) (x : Parcel) → x ≡ get_or xs 0 x → 0 < length xs → All P xs → P x
first_each P xs x is some all = subst P (sym is) (all 0 x some)

-- a late copy that is due has no delay, nor has it with the due moment 0
pub ripe_copy : (taken : ℕ) (x : Parcel) → x.due ≤ taken → copy_at taken x ≡ copy_at taken (record x { due = 0 })
ripe_copy taken x due = grind arith

-- the one that is next, or none, of two heaps of which the first is empty
pub late_next : (taken next : ℕ) (ready late : List Parcel) (copies : List Copy) (o : Option (Bor Parcel)) → length ready ≡ 0 → All (λ (p : Parcel). taken < p.due) late
    → (IsSome o ↔ (0 < length late)) → IfSome o (λ x. x.now ≡ get_or late 0 x.now) → IfSome o (λ x. IsUpperBound by_due x.now late)
    → Stands taken next ready late copies → option_map (λ (p : Bor Parcel). copy_at taken p.now) o ≡ next_copy copies
late_next taken next ready late copies None none is_late some lookup bound s =
    let empty : length ready + length late ≡ 0 = zero (length late) (λ l. true≢false (sym (some.1 l))) in
    sym (none_taken taken next ready late copies empty s).0
  where
    zero : (n : ℕ) → (0 < n → ⊥) → length ready + n ≡ 0
    zero n h = ⊎_elim (λ l. absurd (h l)) (λ l. omega (arith, l, none)) (cases_lt 0 n)
late_next taken next ready late copies (Some x) none is_late some lookup bound s =
    let inside : 0 < length late = some.0 refl in
    sym (next_stands taken next ready late copies x.now (late_least taken ready late x.now none is_late (first_each (λ (p : Parcel). taken < p.due) late x.now lookup inside is_late) bound (first_among late x.now lookup inside)) s)
