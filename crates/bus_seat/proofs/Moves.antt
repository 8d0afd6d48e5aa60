-- Each step keeps the rule.
use Rattle.std.proofs.Common.{◌≡◌, ◌≢◌, ◌⊎◌, ℕ, suc, ◌+◌, ◌%◌, ◌^◌, ◌<◌, ◌≤◌, eqb, Bool, true, false, true≢false, List, [], ◌∷◌, ◌++◌, length, set, drop, get_or, Some, None, Option, IfSome, IsSome, is_some, refl, sym, ap, ◌∙◌, subst, inr, ⊎_elim, arith, append_assoc, append-nil, length-append, length-set, get_or-set_same, get_or-set_other, mod-eq_of_lt}
use mathlib.Core.Logic.{dite}
use mathlib.Core.Option.{some, none, some-injective}
use mathlib.Core.Option.{Option as maybe}
use native.Mathlib.Decide.{ℕ_discrete, dec_le}
use lib.Seq.{set-get_or, drop-append_seam}
use prog.Atomic.{either}
use Rattle.std.proofs.lemmas.List.Sums.{sum_by-cons}
use Rattle.bus_seat.proofs.Words.{All, All-append, All-cons, All-head, All-nil, All-tail, Entry, Flight, IsPrefix, Sat, Took, View, added, after, blank, caught_up, dealt, ended, flown, get_elem?, given, gives_of, joined, made_by, named, newcomer, node_of, off, one_if, own, phase, same, some_one, sum_by, taken, told, turn_of}
use Rattle.atomic_table.specs.Table.{State, Act, step, keeps, takes, gives, Valid, stepped, carried_after, rest, Allows, Splits, Joins, Final, Seen}
use Rattle.atomic_table.proofs.Lists.{at_set, at_snoc, set_here, set_else, set_again, exchanged}
use Rattle.bus_seat.proofs.Made.{made_here, made_else, phase_made}
use Rattle.bus_seat.specs.declared.view.Ended.{Ended}
use Rattle.bus_seat.specs.Rule.{IsTold, Fits, Orderly}
use Rattle.bus_seat.proofs.Fronts.{prefix_longer}
use Rattle.bus_seat.proofs.Sums.{sum_set, sum_push, term_le, two_le, named_own, named_here, named_else, named_append, not_named}

abbrev St : Type 0
St = State Flight View

abbrev pub names : ℕ → View → ℕ
names n v = named n (told v)

-- a step of the seat id, whose view goes from v to w
moved : (base : Flight) (s : St) (o : Orderly base s) (id : ℕ) (v w : View) (words : List ℕ) (homes : List (maybe Flight)) (log : List Entry) → get_elem? s.views id ≡ some v
    → length words ≡ 3 → length homes ≡ 1 → get_or words 1 0 ≡ length log → get_or words 0 0 + turn_of v ≡ get_or s.words 0 0 + turn_of w → get_or words 0 0 < 2
    → (get_or words 0 0 ≡ 0 → get_elem? homes 0 ≡ some (some (flown base log))) → Fits base o.next log w
    → ((j : ℕ) (u : View) → j ≢ id → get_elem? s.views j ≡ some u → Fits base o.next log u)
    → ((n : ℕ) → names n w ≡ names n v) → gives_of w ≡ gives_of v → ((n : ℕ) → o.next ≤ n → made_by n log ≡ [])
    → Orderly base record { words = words; homes = homes; views = set s.views id w }
moved base s o id v w words homes log at two one counted turns bit home mine others same giver fresh = grind (arith, sum_set, at_set)

-- a step that changes nothing
unmoved : (base : Flight) (s : St) (o : Orderly base s) (i id : ℕ) (v : View) (cs : List (ℕ × Flight)) → get_elem? s.views id ≡ some v → Orderly base (stepped s i (get_or s.words i 0) id cs v keeps)
unmoved base s o i id v cs at =
    let ws = sym (set-get_or s.words i 0) in
    let vs = sym (set_again s.views id v at) in
    let P : List ℕ × List View → Type 0 = λ x. Orderly base record { words = x.0; homes = s.homes; views = x.1 } in
    subst P (λ k. (ws k, vs k)) o

abbrev Told : List Entry → List Ended → Type 0
Told log es = All (IsTold log) es

-- what is told of a view's own number, where it has seen another list
told_seen : (log : List Entry) (num : Option ℕ) (seen seen' mine : List Entry) (es : List Ended) → IsPrefix seen' log → Told log (own num seen mine ++ es) → Told log (own num seen' mine ++ es)
told_seen log None seen seen' mine es pre all = all
told_seen log (Some n) seen seen' mine es pre all =
    let e = ended n seen mine in
    All-cons (IsTold log) (ended n seen' mine) es (pre, (All-head (IsTold log) e es all).1) (All-tail (IsTold log) e es all)

told_made : (log : List Entry) (num : Option ℕ) (seen mine : List Entry) (es : List Ended) → Told log (own num seen mine ++ es) → IfSome num (λ n. made_by n log ≡ mine)
told_made log None seen mine es all = tt
told_made log (Some n) seen mine es all = (All-head (IsTold log) (ended n seen mine) es all).1

told_left : (log : List Entry) (num : Option ℕ) (seen mine : List Entry) (es : List Ended) → Told log (own num seen mine ++ es) → Told log es
told_left log None seen mine es all = all
told_left log (Some n) seen mine es all = All-tail (IsTold log) (ended n seen mine) es all

pub takes_turn : (base : Flight) (slots id : ℕ) (v : View) → v.turn ≡ false → v.spent ≡ false → IsSome v.number ⊎ IsSome v.next
    → Allows (Orderly base) slots id (v, []) 0 (λ x. either (eqb x 0) 1 x) (taken (step slots 0 0 1 none) (v, []))
takes_turn base slots id v off fresh may s o wide at small =
    let tell = taken (step slots 0 0 1 none) (v, []) in
    let x : ℕ = get_or s.words 0 0 in
    let f = o.each_view id v at in
    exchanged x 0 1 (λ k. (w : View) × (a : Act Flight) × Valid s.homes [] a × Orderly base (stepped s 0 k id [] w a) × tell x (w, carried_after [] a))
    (λ hit.
    let all : List Entry = v.seen ++ f.saw.0 in
    let w : View = record v { seen = all; turn = true } in
    let two = o.three_words in
    let zero-turn : turn_of v ≡ 0 = ap one_if off in
    let now : get_or (set s.words 0 1) 0 0 ≡ 1 = get_or-set_same s.words 0 1 0 (omega arith) in
    let same-air : flown base o.log ≡ flown v.base all = λ i. flown (sym (f.based fresh) i) (sym f.saw.1 i) in (
      w,
      takes 0 (flown v.base all),
      o.home hit ∙ ap (λ (a : Flight). some (some a)) same-air,
      moved base s o id v w (set s.words 0 1) (set s.homes 0 none) o.log at (length-set s.words 0 1 ∙ two) (length-set s.homes 0 none ∙ o.one_slot) (get_or-set_other s.words 0 1 1 0 (λ e. omega arith) ∙ o.counted)
          (omega (arith, now, zero-turn, hit)) (omega (arith, now)) (λ z. absurd (omega (arith, now, z)))
          record {
            based = f.based;
            saw = ([], append-nil all ∙ f.saw.1);
            tells = told_seen o.log v.number v.seen all v.mine v.ended ([], append-nil all ∙ f.saw.1) f.tells;
            gives = f.gives;
            whole = λ _. (f.saw.1, fresh);
            may = λ _. may;
          }
          (λ j u _ e. o.each_view j u e) (λ n. named_own n v.number all v.mine v.seen v.mine v.ended) refl o.fresh,
      (
        (λ _. (f.saw.0, refl, subst (λ l. IfSome v.number (λ n. made_by n l ≡ v.mine)) (sym f.saw.1) (told_made o.log v.number v.seen v.mine v.ended f.tells))),
        λ miss. absurd (miss hit),
      ),
    ))
    (λ miss. (v, keeps, tt, unmoved base s o 0 id v [] at, ((λ hit. absurd (miss hit)), λ _. refl)))

-- who has the turn, and that the turn is taken then
has_turn : (base : Flight) (s : St) (o : Orderly base s) (id : ℕ) (v : View) → v.turn ≡ true → get_elem? s.views id ≡ some v → get_or s.words 0 0 ≡ 1
has_turn base s o id v on at = let mine : turn_of v ≡ 1 = ap one_if on in omega (arith, term_le turn_of s.views id v at, o.turns, o.one_turn, mine)

-- the number of a seat was given out
given_out : (base : Flight) (s : St) (o : Orderly base s) (id n : ℕ) (v : View) → 0 < names n v → get_elem? s.views id ≡ some v → n < o.next
given_out base s o id n v some-name at = elim (dec_le o.next n) as (λ _. n < o.next) [
  | yes le ↦ absurd (omega (arith, o.never n le, term_le (names n) s.views id v at, some-name))
  | no nle ↦ omega (arith, nle)
]

names_own : (v : View) (n : ℕ) → v.number ≡ Some n → names n v ≡ 1 + named n v.ended
names_own v n is = ap (λ num. named n (own num v.seen v.mine ++ v.ended)) is ∙ named_here n v.seen v.mine v.ended

pub adds_entry : (base : Flight) (slots id : ℕ) (v : View) (n : ℕ) (e : Entry) (air : Flight) → v.turn ≡ true → v.number ≡ Some n → node_of e ≡ n → air.history ≡ v.seen ++ e ∷ [] → length air.history < 2 ^ 64
    → Allows (Orderly base) slots id (v, (0, air) ∷ []) 1 (λ x. (x + 1) % 2 ^ 64) (added (step slots 1 1 0 none) (v, (0, air) ∷ []))
adds_entry base slots id v n e air on is of is-air short s o wide at small =
    let f = o.each_view id v at in
    let log : List Entry = o.log ++ e ∷ [] in
    let known : v.seen ≡ o.log = (f.whole on).0 in
    let all : air.history ≡ log = is-air ∙ ap (λ l. l ++ e ∷ []) known in
    let w : View = caught_up v air.history in
    let x : ℕ = get_or s.words 1 0 in
    let y : ℕ = (x + 1) % 2 ^ 64 in
    let more : length log ≡ length o.log + 1 = length-append o.log (e ∷ []) in
    let count : y ≡ length log = mod-eq_of_lt (omega (arith, o.counted, more, ap length all, short)) ∙ omega (arith, o.counted, more) in
    let two = o.three_words in
    let turn-out : get_or s.words 0 0 ≡ 1 = has_turn base s o id v on at in
    let word : get_or (set s.words 1 y) 0 0 ≡ get_or s.words 0 0 = get_or-set_other s.words 1 0 y 0 (λ z. omega arith) in
    let same : (m : ℕ) → names m w ≡ names m v = λ m. named_own m v.number w.seen w.mine v.seen v.mine v.ended in
    let own-name = names_own v n is in
    let below : n < o.next = given_out base s o id n v (omega (arith, own-name)) at in
    let one = o.once n below in
    let none-else : named n v.ended ≡ 0 = omega (arith, own-name, one, term_le (names n) s.views id v at) in
    let pre : IsPrefix air.history log = ([], append-nil air.history ∙ all) in
    let keep : (d : Ended) → d.number ≢ n → IsTold o.log d → IsTold log d = λ d ne t. (prefix_longer d.seen o.log (e ∷ []) t.0, made_else o.log e d.number (λ z. ne (sym z ∙ of)) ∙ t.1) in
    let left : Told log v.ended = not_named (IsTold o.log) (IsTold log) n v.ended none-else keep (told_left o.log v.number v.seen v.mine v.ended f.tells) in
    let was-mine : made_by n o.log ≡ v.mine = subst (λ num. IfSome num (λ k. made_by k o.log ≡ v.mine)) is (told_made o.log v.number v.seen v.mine v.ended f.tells) in
    let new : drop (length v.seen) air.history ≡ e ∷ [] = ap (drop (length v.seen)) is-air ∙ drop-append_seam v.seen (e ∷ []) in
    let mine : made_by n log ≡ w.mine = made_here o.log e n of ∙ ap (λ l. l ++ e ∷ []) was-mine ∙ ap (λ l. v.mine ++ l) (sym new) in
    let tells : Told log (told w) = subst (λ num. Told log (own num w.seen w.mine ++ v.ended)) (sym is) (All-cons (IsTold log) (ended n w.seen w.mine) v.ended (pre, mine) left) in (
      w,
      keeps,
      tt,
      moved base s o id v w (set s.words 1 y) s.homes log at (length-set s.words 1 y ∙ two) o.one_slot (get_or-set_same s.words 1 y 0 (omega (arith, two)) ∙ count)
          (ap (λ k. k + turn_of v) word) (omega (arith, word, o.one_turn)) (λ z. absurd (omega (arith, word, z, turn-out)))
          record {
            based = f.based;
            saw = pre;
            tells = tells;
            gives = f.gives;
            whole = λ _. (all, (f.whole on).1);
            may = f.may;
          }
          (λ j u apart at-j.
          let g = o.each_view j u at-j in
          let unnamed : names n u ≡ 0 = omega (arith, own-name, one, two_le (names n) s.views j id u v apart at-j at) in
          record {
            based = g.based;
            saw = prefix_longer u.seen o.log (e ∷ []) g.saw;
            tells = not_named (IsTold o.log) (IsTold log) n (told u) unnamed keep g.tells;
            gives = g.gives;
            whole = λ on'. absurd (let m : turn_of v ≡ 1 = ap one_if on in let t : turn_of u ≡ 1 = ap one_if on' in omega (arith, m, t, turn-out, o.turns, two_le turn_of s.views j id u v apart at-j at));
            may = g.may;
          })
          same refl (λ m le. made_else o.log e m (λ z. omega (arith, below, le, z, of)) ∙ o.fresh m le),
      refl,
    )

pub gives_back : (base : Flight) (slots id : ℕ) (v : View) → v.turn ≡ true
    → Allows (Orderly base) slots id (v, (0, flown v.base v.seen) ∷ []) 0 (λ _. 0) (λ _. given (step slots 0 0 0 none) (v, (0, flown v.base v.seen) ∷ []) 0)
gives_back base slots id v on s o wide at small =
    let f = o.each_view id v at in
    let w : View = off v in
    let air = flown v.base v.seen in
    let two = o.three_words in
    let turn-out : get_or s.words 0 0 ≡ 1 = has_turn base s o id v on at in
    let mine : turn_of v ≡ 1 = ap one_if on in
    let word : get_or (set s.words 0 0) 0 0 ≡ 0 = get_or-set_same s.words 0 0 0 (omega (arith, two)) in
    let same-air : air ≡ flown base o.log = λ i. flown (f.based (f.whole on).1 i) ((f.whole on).0 i) in (
      w,
      gives,
      tt,
      moved base s o id v w (set s.words 0 0) (set s.homes 0 (some air)) o.log at (length-set s.words 0 0 ∙ two) (length-set s.homes 0 (some air) ∙ o.one_slot) (get_or-set_other s.words 0 1 0 0 (λ e. omega arith) ∙ o.counted)
          (omega (arith, word, mine, turn-out)) (omega (arith, word)) (λ _. set_here s.homes 0 (some air) (omega (arith, o.one_slot)) ∙ ap (λ (a : Flight). some (some a)) same-air)
          record {
            based = f.based;
            saw = f.saw;
            tells = f.tells;
            gives = f.gives;
            whole = λ e. absurd (true≢false (sym e));
            may = λ e. absurd (true≢false (sym e));
          }
          (λ j u _ e. o.each_view j u e) (λ n. refl) refl o.fresh,
      refl,
    )

no_next : (num : Option ℕ) (P : ℕ → Type 0) → some_one num ≡ 0 → IfSome num P
no_next None P z = tt
no_next (Some n) P z = absurd (omega (arith, z))

nothing_on : false ≡ true → ⊥
nothing_on e = true≢false (sym e)

pub splits : (base : Flight) (id k : ℕ) (v : View) → v.next ≡ Some k → Splits (Orderly base) id v (dealt v) (newcomer v)
splits base id k v is s o at =
    let f = o.each_view id v at in
    let here : k ≡ o.next = subst (λ m. IfSome m (λ j. j ≡ o.next)) is f.gives in
    let w : View = dealt v in
    let new : View = newcomer v in
    let vs : List View = set s.views id w in
    let giver : gives_of v ≡ 1 = ap some_one is in
    let giver' : gives_of w ≡ 1 = ap (λ m. some_one (after m)) is in
    let new-name : names k new ≡ 1 = ap (λ num. named k (own num v.seen [] ++ [])) is ∙ named_here k v.seen [] [] in
    let no-name : (m : ℕ) → m ≢ k → names m new ≡ 0 = λ m ne. ap (λ num. named m (own num v.seen [] ++ [])) is ∙ named_else m k v.seen [] [] (λ z. ne (sym z)) in
    let keep : (u : View) → IfSome u.next (λ j. j ≡ o.next + 1) → Fits base o.next o.log u → Fits base (o.next + 1) o.log u = λ u n g. record {
      based = g.based;
      saw = g.saw;
      tells = g.tells;
      gives = n;
      whole = g.whole;
      may = g.may;
    } in
    let left : Fits base (o.next + 1) o.log w = record {
      based = f.based;
      saw = f.saw;
      tells = f.tells;
      gives = subst (λ m. IfSome (after m) (λ j. j ≡ o.next + 1)) (sym is) (ap (λ j. j + 1) here);
      whole = f.whole;
      may = λ _. inr (ap (λ m. is_some (after m)) is);
    } in
    let right : Fits base (o.next + 1) o.log new = record {
      based = f.based;
      saw = f.saw;
      tells = subst (λ num. Told o.log (own num v.seen [] ++ [])) (sym is) (All-cons (IsTold o.log) (ended k v.seen []) [] (f.saw, o.fresh k (omega (arith, here))) (All-nil (IsTold o.log)));
      gives = tt;
      whole = λ e. absurd (nothing_on e);
      may = λ e. absurd (nothing_on e);
    } in
    let old : (j : ℕ) (u : View) → get_elem? vs j ≡ some u → Fits base (o.next + 1) o.log u = λ j u e. ⊎_elim (λ (t : (j ≡ id) × (w ≡ u)). subst (Fits base (o.next + 1) o.log) t.1 left)
    (λ (t : (j ≢ id) × (get_elem? s.views j ≡ some u)). keep u (no_next u.next (λ j. j ≡ o.next + 1) (omega (arith, giver, o.one_giver, two_le gives_of s.views j id u v t.0 t.1 at))) (o.each_view j u t.1)) (at_set s.views id j w u e) in
    record {
      log = o.log;
      next = o.next + 1;
      three_words = o.three_words;
      one_slot = o.one_slot;
      counted = o.counted;
      turns = omega (arith, sum_push turn_of vs new, sum_set turn_of s.views id v w at, o.turns);
      one_turn = o.one_turn;
      home = o.home;
      each_view = λ j u e. ⊎_elim (old j u) (λ (t : new ≡ u). subst (Fits base (o.next + 1) o.log) t right) (at_snoc vs new u j e);
      once = λ m l. grind (arith, sum_push, sum_set);
      never = λ m l. omega (arith, sum_push (names m) vs new, sum_set (names m) s.views id v w at, o.never m (omega (arith, l)), no-name m (λ z. omega (arith, z, l, here)));
      one_giver = omega (arith, sum_push gives_of vs new, sum_set gives_of s.views id v w at, o.one_giver, giver, giver');
      fresh = λ m l. o.fresh m (omega (arith, l));
    }

pub joins : (base : Flight) (id other : ℕ) (v w : View) → w.turn ≡ false → Joins (Orderly base) id v other w (joined v w) blank
joins base id other v w off s o at apart there =
    let both : View = joined v w in
    let vs : List View = set s.views id both in
    let was : get_elem? s.views other ≡ some w = sym (set_else s.views id other both apart) ∙ there in
    let f = o.each_view id v at in
    let g = o.each_view other w was in
    let idle : turn_of w ≡ 0 = ap one_if off in
    let name : (n : ℕ) → names n both ≡ names n v + names n w = λ n. ap (named n) (sym (append_assoc (own v.number v.seen v.mine) v.ended (told w))) ∙ named_append n (told v) (told w) in
    let mine : Fits base o.next o.log both = record {
      based = f.based;
      saw = f.saw;
      tells = subst (Told o.log) (append_assoc (own v.number v.seen v.mine) v.ended (told w)) (All-append (IsTold o.log) (told v) (told w) f.tells g.tells);
      gives = f.gives;
      whole = f.whole;
      may = f.may;
    } in
    let spent : Fits base o.next o.log blank = record {
      based = λ e. absurd (true≢false e);
      saw = (o.log, refl);
      tells = All-nil (IsTold o.log);
      gives = tt;
      whole = λ e. absurd (nothing_on e);
      may = λ e. absurd (nothing_on e);
    } in
    record {
      log = o.log;
      next = o.next;
      three_words = o.three_words;
      one_slot = o.one_slot;
      counted = o.counted;
      turns = omega (arith, sum_set turn_of vs other w blank there, sum_set turn_of s.views id v both at, idle, o.turns);
      one_turn = o.one_turn;
      home = o.home;
      each_view = λ j u e. ⊎_elim (λ (t : (j ≡ other) × (blank ≡ u)). subst (Fits base o.next o.log) t.1 spent)
          (λ (t : (j ≢ other) × (get_elem? vs j ≡ some u)). ⊎_elim (λ (q : (j ≡ id) × (both ≡ u)). subst (Fits base o.next o.log) q.1 mine) (λ (q : (j ≢ id) × (get_elem? s.views j ≡ some u)). o.each_view j u q.1) (at_set s.views id j both u t.1))
          (at_set vs other j blank u e);
      once = λ n l. omega (arith, sum_set (names n) vs other w blank there, sum_set (names n) s.views id v both at, name n, o.once n l);
      never = λ n l. omega (arith, sum_set (names n) vs other w blank there, sum_set (names n) s.views id v both at, name n, o.never n l);
      one_giver = omega (arith, sum_set gives_of vs other w blank there, sum_set gives_of s.views id v both at, o.one_giver);
      fresh = o.fresh;
    }

-- a thread is counted among those that wait, or no more
pub counts_waiting : (base : Flight) (slots id : ℕ) (m : Sat) (f : ℕ → ℕ) → Allows (Orderly base) slots id m 2 f (λ r m'. m' ≡ m)
counts_waiting base slots id m f s o wide at small =
    let y : ℕ = f (get_or s.words 2 0) in
    let three = o.three_words in
    let word : get_or (set s.words 2 y) 0 0 ≡ get_or s.words 0 0 = get_or-set_other s.words 2 0 y 0 (λ e. omega arith) in (
      m.0,
      keeps,
      tt,
      moved base s o id m.0 m.0 (set s.words 2 y) s.homes o.log at (length-set s.words 2 y ∙ three) o.one_slot (get_or-set_other s.words 2 1 y 0 (λ e. omega arith) ∙ o.counted)
          (ap (λ k. k + turn_of m.0) word) (omega (arith, word, o.one_turn)) (λ z. o.home (sym word ∙ z)) (o.each_view id m.0 at)
          (λ j u _ e. o.each_view j u e) (λ n. refl) refl o.fresh,
      refl,
    )

abbrev Holder : List View → Type 0
Holder l = (j : ℕ) × (u : View) × (get_elem? l j ≡ some u) × (u.turn ≡ true)

holder_by : (x : View) (xs : List View) (b : Bool) → x.turn ≡ b → (x.turn ≡ false → Holder xs) → Holder (x ∷ xs)
holder_by x xs true e later = (0, x, refl, e)
holder_by x xs false e later = let h = later e in (suc h.0, h.1, h.2, h.3)

-- somebody has the turn where it is taken
holder : (l : List View) → 0 < sum_by turn_of l → Holder l
holder [] z = absurd (omega (arith, z))
holder (x ∷ xs) z = holder_by x xs x.turn refl (λ off. holder xs (let none-here : turn_of x ≡ 0 = ap one_if off in omega (arith, z, sum_by-cons turn_of x xs, none-here)))

-- once each number that was given out is among those that a view tells of, the Air is at home
pub closes : (base : Flight) (id k : ℕ) (v : View) (ws : List ℕ) (xs : List Flight) → v.turn ≡ false → v.next ≡ Some k → ((n : ℕ) → n < k → 0 < names n v) → Final (Seen (Orderly base) id v) ws xs
    → (log : List Entry) × (get_elem? xs 0 ≡ some (flown base log)) × ((n : ℕ) → k ≤ n → made_by n log ≡ []) × IsPrefix v.seen log × Told log (told v)
closes base id k v ws xs off is all (s, (o, at), same-words, same-slots, values) =
    let f = o.each_view id v at in
    let here : k ≡ o.next = subst (λ m. IfSome m (λ j. j ≡ o.next)) is f.gives in
    let giver : gives_of v ≡ 1 = ap some_one is in
    let free : get_or s.words 0 0 ≡ 0 = dite (ℕ_discrete (get_or s.words 0 0) 0) (λ z. z) (λ ne.
    let h = holder s.views (omega (arith, o.turns, ne)) in
    let j : ℕ = h.0 in
    let u : View = h.1 in
    let apart : j ≢ id = λ e. true≢false (sym h.3 ∙ (ap (λ (x : View). x.turn) (some-injective u v (sym h.2 ∙ (ap (get_elem? s.views) e ∙ at))) ∙ off)) in
    absurd (⊎_elim
    (λ (some-number : IsSome u.number).
    let n = the_one u.number some-number in
    let below : n.0 < o.next = given_out base s o j n.0 u (omega (arith, names_own u n.0 n.1)) h.2 in
    omega (arith, o.once n.0 below, two_le (names n.0) s.views j id u v apart h.2 at, names_own u n.0 n.1, all n.0 (omega (arith, below, here))))
    (λ (some-next : IsSome u.next). omega (arith, giver, o.one_giver, two_le gives_of s.views j id u v apart h.2 at, one_of u.next some-next))
    ((o.each_view j u h.2).may h.3))) in
    (o.log, values 0 (flown base o.log) (o.home free), (λ n l. o.fresh n (omega (arith, l, here))), f.saw, f.tells)
  where
    the_one : (num : Option ℕ) → IsSome num → (n : ℕ) × (num ≡ Some n)
    the_one None e = absurd (nothing_on e)
    the_one (Some n) e = (n, refl)

    one_of : (num : Option ℕ) → IsSome num → some_one num ≡ 1
    one_of None e = absurd (nothing_on e)
    one_of (Some n) e = refl

-- the moves of a seat that is known to have these slots in its hand
pub takes_turn_at : (base : Flight) (slots id : ℕ) (m : Sat) → m.1 ≡ [] → m.0.turn ≡ false → m.0.spent ≡ false → IsSome m.0.number ⊎ IsSome m.0.next
    → Allows (Orderly base) slots id m 0 (λ x. either (eqb x 0) 1 x) (taken (step slots 0 0 1 none) m)
takes_turn_at base slots id m empty out fresh may = subst (λ (k : Sat). Allows (Orderly base) slots id k 0 (λ x. either (eqb x 0) 1 x) (taken (step slots 0 0 1 none) k)) (λ i. (m.0, sym empty i)) (takes_turn base slots id m.0 out fresh may)

pub adds_entry_at : (base : Flight) (slots id : ℕ) (m : Sat) (n : ℕ) (e : Entry) (air : Flight) → m.1 ≡ (0, air) ∷ [] → m.0.turn ≡ true → m.0.number ≡ Some n → node_of e ≡ n → air.history ≡ m.0.seen ++ e ∷ [] → length air.history < 2 ^ 63
    → Allows (Orderly base) slots id m 1 (λ x. (x + 1) % 2 ^ 64) (added (step slots 1 1 0 none) m)
adds_entry_at base slots id m n e air hand on is of is-air short = subst (λ (k : Sat). Allows (Orderly base) slots id k 1 (λ x. (x + 1) % 2 ^ 64) (added (step slots 1 1 0 none) k)) (λ i. (m.0, sym hand i))
    (adds_entry base slots id m.0 n e air on is of is-air (omega (arith, short)))

pub gives_back_at : (base : Flight) (slots id : ℕ) (m : Sat) → m.1 ≡ (0, flown m.0.base m.0.seen) ∷ [] → m.0.turn ≡ true → Allows (Orderly base) slots id m 0 (λ _. 0) (λ _. given (step slots 0 0 0 none) m 0)
gives_back_at base slots id m hand on = subst (λ (k : Sat). Allows (Orderly base) slots id k 0 (λ _. 0) (λ _. given (step slots 0 0 0 none) k 0)) (λ i. (m.0, sym hand i)) (gives_back base slots id m.0 on)

-- the one slot in a hand, as `slot_mut` asks for it
pub one_in_hand : (cs : List (ℕ × Flight)) (air : Flight) → cs ≡ (0, air) ∷ [] → (old : Flight) × (cs ≡ (0, old) ∷ rest cs)
one_in_hand cs air is = (air, is ∙ ap (λ (l : List (ℕ × Flight)). (0, air) ∷ rest l) (sym is))

-- the holder of the turn knows where its node stands
pub took_phase : (m m' : Sat) (n : ℕ) → Took m m' → m.0.number ≡ Some n → phase n m'.0.seen ≡ phase n m.0.mine
took_phase m m' n t is = grind (arith, phase_made)
