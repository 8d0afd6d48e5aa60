-- All seats, joined into the last of them.
use Rattle.std.proofs.Common.{◌≡◌, ℕ, zero, suc, ◌+◌, ◌<◌, ◌≤◌, List, [], ◌∷◌, ◌++◌, length, map, Some, None, Option, IfSome, MatchOption, refl, sym, ap, ◌∙◌, subst, arith, append_assoc, length-append}
use Rattle.atomic_table.specs.Seated.{TableId}
use mathlib.Core.Option.{some, some-injective}
use Rattle.bus_seat.proofs.Words.{All, All-append, All-cons, All-head, All-nil, All-tail, AreSeatsOf, BusId, Entry, Flight, IsAtRest, IsIn, IsPrefix, Sat, Sight, View, count, ended, ends, flown, fresh, fresh_to, gathered, get_elem?, joined, made_by, map-append, named, own, sight, tag, told}
use Rattle.atomic_table.specs.Table.{Final, Seen}
use Rattle.bus_seat.specs.Rule.{IsTold, Orderly}
use Rattle.bus_seat.proofs.Moves.{closes}
use Rattle.bus_seat.proofs.Sums.{named_append}

pub snoc_injective : {A : Type 0} (xs ys : List A) (x y : A) → xs ++ x ∷ [] ≡ ys ++ y ∷ [] → (xs ≡ ys) × (x ≡ y)
snoc_injective [] [] x y e = (refl, cc e)
snoc_injective [] (z ∷ ys) x y e = absurd (omega (arith, ap length e, length-append ys (y ∷ [])))
snoc_injective (z ∷ xs) [] x y e = absurd (omega (arith, ap length e, length-append xs (x ∷ [])))
snoc_injective (z ∷ xs) (w ∷ ys) x y e = let head : z ≡ w = cc e in let r = snoc_injective xs ys x y (cc e) in (cc (head, r.0), r.1)

pub ends_append : (ss ts : List Sight) → ends (ss ++ ts) ≡ ends ss ++ ends ts
ends_append [] ts = refl
ends_append (s ∷ ss) ts = ap (λ l. own s.number s.seen s.mine ++ l) (ends_append ss ts) ∙ sym (append_assoc (own s.number s.seen s.mine) (ends ss) (ends ts))

-- one more seat is joined
pub gathers : (v w : View) (table : TableId) (ss : List Sight) (s : Sight) → sight table w ≡ s → w.ended ≡ [] → joined (gathered v ss) w ≡ gathered v (ss ++ s ∷ [])
gathers v w table ss s is alone =
    let one : told w ≡ ends (s ∷ []) = ap (λ l. own w.number w.seen w.mine ++ l) alone ∙ ap (λ (x : Sight). own x.number x.seen x.mine ++ []) is in
    ap (λ l. record v { ended = l }) (append_assoc v.ended (ends ss) (told w) ∙ ap (λ l. v.ended ++ l) (ap (λ l. ends ss ++ l) one ∙ sym (ends_append ss (s ∷ []))))

-- the numbers in it hang on whose seats they are
named_tags : (n : ℕ) (ss ts : List Sight) → map tag ss ≡ map tag ts → named n (ends ss) ≡ named n (ends ts)
named_tags n [] [] e = refl
named_tags n [] (t ∷ ts) e = absurd (cc e)
named_tags n (s ∷ ss) [] e = absurd (cc e)
named_tags n (s ∷ ss) (t ∷ ts) e = grind (arith, named_append, named_tags n ss ts (cc e))

all_named : (n m : ℕ) (bus : BusId) → n < m → 0 < named n (ends (fresh_to bus m))
all_named n zero bus l = absurd (omega (arith, l))
all_named n (suc m) bus l = grind (arith, ends_append, named_append, all_named n m bus)

-- each number that was given out stands in what the seats left
pub seats_named : (bus : BusId) (front : List Sight) → map tag front ≡ map tag (fresh_to bus (count bus.base)) → (n : ℕ) → n < (count bus.base) → 0 < named n (ends front)
seats_named bus front same n l = omega (arith, named_tags n front (fresh_to bus (count bus.base)) same, all_named n (count bus.base) bus l)

-- the seats of a bus are those of its nodes, and the run's last
pub seats_split : (bus : BusId) (front : List Sight) (last : Sight) → AreSeatsOf bus (front ++ last ∷ []) → (map tag front ≡ map tag (fresh_to bus (count bus.base))) × (tag last ≡ (bus, None))
seats_split bus front last are = snoc_injective (map tag front) (map tag (fresh_to bus (count bus.base))) (tag last) (bus, None)
    (sym (map-append tag front (last ∷ [])) ∙ are ∙ map-append tag (fresh_to bus (count bus.base)) (fresh bus None ∷ []))

fresh_of : (bus : BusId) (n : ℕ) → All (λ (t : BusId × Option ℕ). t.0 ≡ bus) (map tag (fresh_to bus n))
fresh_of bus zero = All-nil (λ (t : BusId × Option ℕ). t.0 ≡ bus)
fresh_of bus (suc n) = subst (All (λ (t : BusId × Option ℕ). t.0 ≡ bus)) (sym (map-append tag (fresh_to bus n) (fresh bus (Some n) ∷ [])))
    (All-append (λ (t : BusId × Option ℕ). t.0 ≡ bus) (map tag (fresh_to bus n)) ((bus, Some n) ∷ []) (fresh_of bus n) (All-cons (λ (t : BusId × Option ℕ). t.0 ≡ bus) (bus, Some n) [] refl (All-nil (λ (t : BusId × Option ℕ). t.0 ≡ bus))))

tagged : (bus : BusId) (ss : List Sight) → All (λ (t : BusId × Option ℕ). t.0 ≡ bus) (map tag ss) → All (λ (s : Sight). s.bus ≡ bus) ss
tagged bus [] h = All-nil (λ (s : Sight). s.bus ≡ bus)
tagged bus (s ∷ ss) h = All-cons (λ (x : Sight). x.bus ≡ bus) s ss (All-head (λ (t : BusId × Option ℕ). t.0 ≡ bus) (tag s) (map tag ss) h) (tagged bus ss (All-tail (λ (t : BusId × Option ℕ). t.0 ≡ bus) (tag s) (map tag ss) h))

pub seats_of : (bus : BusId) (front : List Sight) → map tag front ≡ map tag (fresh_to bus (count bus.base)) → All (λ (s : Sight). s.bus ≡ bus) front
seats_of bus front same = tagged bus front (subst (All (λ (t : BusId × Option ℕ). t.0 ≡ bus)) (sym same) (fresh_of bus (count bus.base)))

abbrev Numbered : BusId × Option ℕ → Type 0
Numbered t = (k : ℕ) × (t.1 ≡ Some k)

fresh_numbered : (bus : BusId) (m : ℕ) → All Numbered (map tag (fresh_to bus m))
fresh_numbered bus zero = All-nil Numbered
fresh_numbered bus (suc m) = subst (All Numbered) (sym (map-append tag (fresh_to bus m) (fresh bus (Some m) ∷ [])))
    (All-append Numbered (map tag (fresh_to bus m)) ((bus, Some m) ∷ []) (fresh_numbered bus m) (All-cons Numbered (bus, Some m) [] (m, refl) (All-nil Numbered)))

told_each : (log : List Entry) (ts : List Sight) → All Numbered (map tag ts) → All (IsTold log) (ends ts) → All (IsIn log) ts
told_each log [] h told = All-nil (IsIn log)
told_each log (t ∷ ts) h told =
    let k = All-head Numbered (tag t) (map tag ts) h in
    let told' : All (IsTold log) (ended k.0 t.seen t.mine ∷ ends ts) = subst (λ num. All (IsTold log) (own num t.seen t.mine ++ ends ts)) k.1 told in
    let one = All-head (IsTold log) (ended k.0 t.seen t.mine) (ends ts) told' in
    All-cons (IsIn log) t ts (one.0, subst (λ num. IfSome num (λ n. made_by n log ≡ t.mine)) (sym k.1) one.1)
    (told_each log ts (All-tail Numbered (tag t) (map tag ts) h) (All-tail (IsTold log) (ended k.0 t.seen t.mine) (ends ts) told'))

-- what is told of the seats of nodes is what was seen and made with them
pub told_in : (log : List Entry) (bus : BusId) (n : ℕ) (ss : List Sight) → map tag ss ≡ map tag (fresh_to bus n) → All (IsTold log) (ends ss) → All (IsIn log) ss
told_in log bus n ss same all = told_each log ss (subst (All Numbered) (sym same) (fresh_numbered bus n)) all

pub fresh_count : (bus : BusId) (n : ℕ) → length (fresh_to bus n) ≡ n
fresh_count bus zero = refl
fresh_count bus (suc n) = omega (arith, length-append (fresh_to bus n) (fresh bus (Some n) ∷ []), fresh_count bus n)

-- what the closed table has
pub closed_seats : (bus : BusId) (table : TableId) (front : List Sight) (run : Sight) (m : Sat) (v : View) (id : ℕ) (base : Flight) (ws : List ℕ) (xs : List Flight) (air : Flight) → base ≡ bus.base → AreSeatsOf bus (front ++ run ∷ []) → sight table m.0 ≡ run
    → IsAtRest m.0.base m → v ≡ gathered m.0 front → Final (Seen (Orderly base) id v) ws xs → get_elem? xs 0 ≡ some air → (air ≡ flown bus.base air.history) × ((n : ℕ) → count bus.base ≤ n → made_by n air.history ≡ []) × All (IsIn air.history) (front ++ run ∷ [])
closed_seats bus table front run m v id base ws xs air base-is are is rest same final' at =
    let final = subst (λ f. Final (Seen (Orderly f) id v) ws xs) base-is final' in
    let parts = seats_split bus front run are in
    let no-number : m.0.number ≡ None = ap (λ (s : Sight). s.number) is ∙ ap (λ (t : BusId × Option ℕ). t.1) parts.1 in
    let based : m.0.base ≡ bus.base = ap (λ (s : Sight). s.bus.base) is ∙ ap (λ (t : BusId × Option ℕ). t.0.base) parts.1 in
    let role : m.0.next ≡ Some (count m.0.base) = subst (λ num. MatchOption num (m.0.next ≡ Some (count m.0.base)) (λ n. (m.0.next ≡ None) × (n < count m.0.base))) no-number rest.role in
    let mine = own m.0.number m.0.seen m.0.mine in
    let names : (n : ℕ) → named n (told v) ≡ named n mine + (named n m.0.ended + named n (ends front)) = λ n. ap (λ (u : View). named n (told u)) same ∙ named_append n mine (m.0.ended ++ ends front) ∙ ap (λ k. named n mine + k) (named_append n m.0.ended (ends front)) in
    let end = closes bus.base id (count bus.base) v ws xs (ap (λ (u : View). u.turn) same ∙ rest.off) (ap (λ (u : View). u.next) same ∙ role ∙ ap (λ f. Some (count f)) based) (λ n l. omega (arith, names n, seats_named bus front parts.0 n l)) final in
    let log : List Entry = end.0 in
    let air-is : flown bus.base log ≡ air = some-injective (flown bus.base log) air (sym end.1 ∙ at) in
    let left : All (IsTold log) (ends front) = subst (All (IsTold log)) (ap (λ (u : View). told u) same ∙ (ap (λ num. own num m.0.seen m.0.mine ++ (m.0.ended ++ ends front)) no-number ∙ ap (λ l. l ++ ends front) rest.alone)) end.4 in
    let saw : IsPrefix run.seen log = subst (λ l. IsPrefix l log) (ap (λ (u : View). u.seen) same ∙ ap (λ (s : Sight). s.seen) is) end.3 in
    let run-number : run.number ≡ None = ap (λ (t : BusId × Option ℕ). t.1) parts.1 in
    let run-in : IsIn log run = (saw, subst (λ num. IfSome num (λ n. made_by n log ≡ run.mine)) (sym run-number) tt) in
    let all = All-append (IsIn log) front (run ∷ []) (told_in log bus (count bus.base) front parts.0 left) (All-cons (IsIn log) run [] run-in (All-nil (IsIn log))) in (
      subst (λ (a : Flight). a ≡ flown bus.base a.history) air-is refl,
      subst (λ (a : Flight). (n : ℕ) → count bus.base ≤ n → made_by n a.history ≡ []) air-is end.2,
      subst (λ (a : Flight). All (IsIn a.history) (front ++ run ∷ [])) air-is all,
    )
