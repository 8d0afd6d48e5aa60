-- Rounds of workers, one after another, and what they leave.
use Rattle.std.proofs.Common.{◌≡◌, ℕ, zero, suc, ◌+◌, ◌<◌, false, List, [], ◌∷◌, ◌++◌, length, map, take, drop, get_or, Option, Some, None, IfSome, MatchOption, refl, sym, ap, ◌∙◌, subst, arith}
use Rattle.std.proofs.Math.Seq.{take-append_seam}
use Rattle.std.proofs.lemmas.Simd.{map-map}
use Rattle.std.proofs.Common.{[], length-append}
use Rattle.std.proofs.lemmas.List.FromFn.{map-range_with_len_more}
use Rattle.site_workers.proofs.Words.{All, AllWentOn, AreSeatsOf, BusId, Entry, Ghosts, GrowsOn, HasFault, HasMet, IsIn, IsSome, IsTrue, KeepsPlan, LeadsOn, NodeFault, OneHasFault, Rests, Sight, TakesPart, WentOn, WorkerView, ext_get_or, fresh, fresh_seats, fresh_to, get_or-map, get_or_append_left, get_or_push, length-map, map-append, range_with_len, tag}
use Rattle.air_bus.specs.Waiting.{is_dead}
use Rattle.bus_seat.specs.Views.{count, made_by}
use Rattle.bus_seat.proofs.Closing.{snoc_injective, fresh_count}
use Rattle.site_workers.specs.Heard.{seat_numbers}
use Rattle.site_workers.proofs.Stepping.{went_on}

pub all_on : {N : Type 0} (m : Ghosts N) (us vs ws : List (WorkerView N)) → AllWentOn m us vs → AllWentOn m vs ws → AllWentOn m us ws
all_on m us vs ws a b = grind (arith, went_on)

-- ---- lists

seam : {X : Type 0} (front : List X) (x : X) (rest : List X) (d : X) → get_or (front ++ x ∷ rest) (length front) d ≡ x
seam [] x rest d = refl
seam (y ∷ ys) x rest d = seam ys x rest d

pub at_front : {X : Type 0} (front : List X) (x : X) (rest all : List X) (n : ℕ) (d : X) → front ++ x ∷ rest ≡ all → n ≡ length front → get_or all n d ≡ x
at_front {X} front x rest all n d is at = ap (λ (xs : List X). get_or xs n d) (sym is) ∙ ap (λ (k : ℕ). get_or (front ++ x ∷ rest) k d) at ∙ seam front x rest d

pub all_taken : {X : Type 0} (n : ℕ) (xs ys : List X) → length xs ≡ n → take n (xs ++ drop (length xs) ys) ≡ xs
all_taken n xs ys len = subst (λ (k : ℕ). take k (xs ++ drop (length xs) ys) ≡ xs) len (take-append_seam xs (drop (length xs) ys))

some_of : {A : Type 0} (xs : List A) (i : ℕ) → i < length xs → A
some_of [] i l = absurd (omega (arith, l))
some_of (x ∷ xs) i l = x

fresh_at : (bus : BusId) (m i : ℕ) (d : Sight) → i < m → get_or (fresh_to bus m) i d ≡ fresh bus (Some i)
fresh_at bus zero i d l = absurd (omega (arith, l))
fresh_at bus (suc m) i d l = grind (arith, fresh_count, get_or_push, get_or_append_left, fresh_at bus m i d)

-- what it made led a node from where it was when it was opened to where it is with its fault
pub record Left {N : Type 0} (m : Ghosts N) (v : N) (w : N × Option NodeFault) (mine : List Entry) : Type 0 where
  pub disks : m.disk_count w.0 ≡ m.disk_count v
  pub plan : IsTrue m.planned → KeepsPlan m.stops_left m.faults m.waits v None [] w.0 w.1 mine
  pub walked : IsTrue m.tells → LeadsOn m.leads m.phase_of m.stands m.number m.spends v None [] w.0 w.1 mine
  pub grown : IsTrue m.tells → GrowsOn m.leads m.phase_of m.stands m.number m.spends m.grown v None [] w.0

-- what workers leave of a run on the bus
pub record Ran {N : Type 0} (m : Ghosts N) (bus : BusId) (nodes : List N) (us : List (WorkerView N)) (left : List (N × Option NodeFault)) (h : List Entry) : Type 0 where
  pub each : (i : ℕ) (a : N) (b : N × Option NodeFault) → i < length nodes → Left m (get_or nodes i a) (get_or left i b) (made_by i h)
  pub fault : OneHasFault us → HasFault left
  pub rested : All (λ (w : WorkerView N). TakesPart w.seat → Rests m.number m.stands m.at_rest_as (w.node, w.fault) w.seat.mine) us
      → (i : ℕ) (b : N × Option NodeFault) → i < length nodes → is_dead bus.base.plan.dead bus.base.kinds i ≡ false → Rests m.number m.stands m.at_rest_as (get_or left i b) (made_by i h)
  pub met : All (λ (w : WorkerView N). HasMet m.faults m.waits w.node w.fault w.seat.mine) us → (i : ℕ) (b : N × Option NodeFault) → i < length nodes → HasMet m.faults m.waits (get_or left i b).0 (get_or left i b).1 (made_by i h)

-- ---- a run on a bus: its workers before the first round, and after the last

-- the seats of a new bus, without the run's
pub front_of : (bus : BusId) (seats front : List Sight) (last : Sight) → seats ≡ fresh_seats bus → seats ≡ front ++ last ∷ [] → (front ≡ fresh_to bus (count bus.base)) × (last ≡ fresh bus None)
front_of bus seats front last new split = snoc_injective front (fresh_to bus (count bus.base)) last (fresh bus None) (sym split ∙ new)

pub front_count : (bus : BusId) (front : List Sight) → front ≡ fresh_to bus (count bus.base) → length front ≡ (count bus.base)
front_count bus front is = ap length is ∙ fresh_count bus (count bus.base)

pub front_at : (bus : BusId) (front : List Sight) (i : ℕ) (d : Sight) → front ≡ fresh_to bus (count bus.base) → i < (count bus.base) → get_or front i d ≡ fresh bus (Some i)
front_at bus front i d is l = ap (λ (xs : List Sight). get_or xs i d) is ∙ fresh_at bus (count bus.base) i d l

-- the numbers of new seats, and of all seats of a bus
fresh_numbers : (bus : BusId) (n : ℕ) → map (λ (s : Sight). s.number) (fresh_to bus n) ≡ map Some (range_with_len 0 n)
fresh_numbers bus zero = refl
fresh_numbers bus (suc n) =
    let more : n + 1 ≡ suc n = omega arith in
    map-append (λ (s : Sight). s.number) (fresh_to bus n) (fresh bus (Some n) ∷ [])
    ∙ ap (λ l. l ++ Some n ∷ []) (fresh_numbers bus n)
    ∙ sym (map-range_with_len_more Some 0 n n (omega arith))
    ∙ ap (λ m. map Some (range_with_len 0 m)) more

pub seats_numbered : (bus : BusId) (seats : List Sight) → AreSeatsOf bus seats → map (λ (s : Sight). s.number) seats ≡ seat_numbers (count bus.base)
seats_numbered bus seats are =
    let number = λ (s : Sight). s.number in
    let of_tag = λ (t : BusId × Option ℕ). t.1 in
    let tags : (ss : List Sight) → map of_tag (map tag ss) ≡ map number ss = λ ss. map-map of_tag tag ss in
    sym (tags seats) ∙ ap (map of_tag) are ∙ tags (fresh_seats bus) ∙ map-append number (fresh_to bus (count bus.base)) (fresh bus None ∷ []) ∙ ap (λ l. l ++ None ∷ []) (fresh_numbers bus (count bus.base))

module _ {N : Type 0} (m : Ghosts N) (bus : BusId) (nodes : List N) (front : List Sight) (ws : List (WorkerView N))
    (nodes_are : map (λ (w : WorkerView N). w.node) ws ≡ nodes) (seats_are : map (λ (w : WorkerView N). w.seat) ws ≡ front) (front_is : front ≡ fresh_to bus (count bus.base)) where
  hired_count : length ws ≡ count bus.base
  hired_count = sym (length-map ws (λ (w : WorkerView N). w.seat)) ∙ ap length seats_are ∙ front_count bus front front_is

  hired_seat : (i : ℕ) (d : WorkerView N) → i < length ws → (get_or ws i d).seat ≡ fresh bus (Some i)
  hired_seat i d l =
      sym (get_or-map (λ (w : WorkerView N). w.seat) ws i d d.seat l) ∙ ap (λ (xs : List Sight). get_or xs i d.seat) seats_are ∙ front_at bus front i d.seat front_is (omega (arith, l, hired_count))

  hired_node : (i : ℕ) (d : WorkerView N) (a : N) → i < length ws → (get_or ws i d).node ≡ get_or nodes i a
  hired_node i d a l =
      sym (get_or-map (λ (w : WorkerView N). w.node) ws i d a l) ∙ ap (λ (xs : List N). get_or xs i a) nodes_are

  -- each worker's seat is one of the bus
  pub hired_buses : (i : ℕ) (d : WorkerView N) → i < length ws → (get_or ws i d).seat.bus ≡ bus
  hired_buses i d l = ap (λ (s : Sight). s.bus) (hired_seat i d l)

  module _ (us : List (WorkerView N)) (went : AllWentOn m ws us) where
    ended_tag : (i : ℕ) (d : WorkerView N) → i < length us → tag (get_or us i d).seat ≡ (bus, Some i)
    ended_tag i d l =
        let inside : i < length ws = omega (arith, l, went.count) in
        let grew = (went.each i d inside).grew in
        let before = hired_seat i d inside in
        let of_bus = grew.bus ∙ ap (λ (s : Sight). s.bus) before in
        let of_node = grew.number ∙ ap (λ (s : Sight). s.number) before in
        λ k. (of_bus k, of_node k)

    nobody : BusId × Option ℕ
    nobody = (bus, None)

    tags : map tag (map (λ (w : WorkerView N). w.seat) us) ≡ map tag (fresh_to bus (count bus.base))
    tags =
        let seats = map (λ (w : WorkerView N). w.seat) us in
        let m = count bus.base in
        let len : length seats ≡ m = length-map us (λ (w : WorkerView N). w.seat) ∙ went.count ∙ hired_count in
        ext_get_or nobody (map tag seats) (map tag (fresh_to bus m)) (length-map seats tag ∙ len ∙ sym (length-map (fresh_to bus m) tag ∙ fresh_count bus m))
        (λ i l.
        let inside : i < length us = omega (arith, l, length-map seats tag, length-map us (λ (w : WorkerView N). w.seat)) in
        let d = some_of us i inside in
        let below : i < m = omega (arith, l, length-map seats tag, len) in
        get_or-map tag seats i d.seat nobody (omega (arith, inside, length-map us (λ (w : WorkerView N). w.seat)))
        ∙ ap tag (get_or-map (λ (w : WorkerView N). w.seat) us i d d.seat inside)
        ∙ ended_tag i d inside
        ∙ sym (get_or-map tag (fresh_to bus m) i d.seat nobody (omega (arith, below, fresh_count bus m)) ∙ ap tag (fresh_at bus m i d.seat below)))

    module _ (last : Sight) (seats : List Sight) (is : seats ≡ map (λ (w : WorkerView N). w.seat) us ++ last ∷ []) where
      -- the seats of all workers, and the run's
      pub all_seats : last.bus ≡ bus → last.number ≡ None → AreSeatsOf bus seats
      all_seats of_bus none =
          let ss = map (λ (w : WorkerView N). w.seat) us in
          let end : tag last ≡ (bus, None) = λ k. (of_bus k, none k) in
          ap (map tag) is ∙ map-append tag ss (last ∷ []) ∙ ap (λ l. l ++ tag last ∷ []) tags ∙ ap (λ t. map tag (fresh_to bus (count bus.base)) ++ t ∷ []) end ∙ sym (map-append tag (fresh_to bus (count bus.base)) (fresh bus None ∷ []))

      module _ (h : List Entry) (in_history : All (IsIn h) seats) (faults : All (λ (w : WorkerView N). w.fault ≡ None) ws) (left : List (N × Option NodeFault)) (left_is : left ≡ map (λ (w : WorkerView N). (w.node, w.fault)) us) where
        -- what each worker made is what the history has of its number
        own_entries : (i : ℕ) (d : WorkerView N) → i < length us → made_by i h ≡ (get_or us i d).seat.mine
        own_entries i d l =
            let ss = map (λ (w : WorkerView N). w.seat) us in
            let len : length ss ≡ length us = length-map us (λ (w : WorkerView N). w.seat) in
            let at : get_or seats i d.seat ≡ (get_or us i d).seat = ap (λ (xs : List Sight). get_or xs i d.seat) is ∙ get_or_append_left ss (last ∷ []) d.seat i (omega (arith, l, len)) ∙ get_or-map (λ (w : WorkerView N). w.seat) us i d d.seat l in
            let there : i < length seats = omega (arith, ap length is, length-append ss (last ∷ []), len, l) in
            let mine = (subst (IsIn h) at (in_history i d.seat there)).1 in
            subst (λ (o : Option ℕ). IfSome o (λ k. made_by k h ≡ (get_or us i d).seat.mine)) (ap (λ (t : BusId × Option ℕ). t.1) (ended_tag i d l)) mine

        -- what is known of a worker, by its own entries, is known of what it left, by the history
        of_left : (P : N × Option NodeFault → List Entry → Type 0) (i : ℕ) (d : WorkerView N) (b : N × Option NodeFault) → i < length us → P ((get_or us i d).node, (get_or us i d).fault) (get_or us i d).seat.mine → P (get_or left i b) (made_by i h)
        of_left P i d b l known =
            let at : get_or left i b ≡ ((get_or us i d).node, (get_or us i d).fault) = ap (λ (xs : List (N × Option NodeFault)). get_or xs i b) left_is ∙ get_or-map (λ (w : WorkerView N). (w.node, w.fault)) us i d b l in
            subst (λ x. P x (made_by i h)) (sym at) (subst (P ((get_or us i d).node, (get_or us i d).fault)) (sym (own_entries i d l)) known)

        -- each node's entries in the history have led it from where it stood to where it stands
        all_walked : (i : ℕ) (a : N) (b : N × Option NodeFault) → i < length ws → Left m (get_or nodes i a) (get_or left i b) (made_by i h)
        all_walked i a b l =
            let d = some_of ws i l in
            let hired : get_or ws i d ≡ record { node = get_or nodes i a; seat = fresh bus (Some i); fault = None } = λ k. record { node = hired_node i d a l k; seat = hired_seat i d l k; fault = faults i d l k } in
            let on : WentOn m (record { node = get_or nodes i a; seat = fresh bus (Some i); fault = None }) (get_or us i d) = subst (λ v. WentOn m v (get_or us i d)) hired (went.each i d l) in
            of_left (Left m (get_or nodes i a)) i d b (omega (arith, l, went.count)) (record { disks = on.disks; plan = on.plan; walked = on.leads_on; grown = on.grows_on })

        -- where a worker has a fault its node has it
        has_fault : OneHasFault us → HasFault left
        has_fault one =
            let parted : WorkerView N → N × Option NodeFault = λ w. (w.node, w.fault) in (
              one.0,
              omega (arith, one.1, ap length left_is, length-map us parted),
              λ b. let d = some_of us one.0 one.1 in of_left (λ x mine. IsSome x.1) one.0 d b one.1 (one.2 d),
            )

        -- where each worker's node that takes part rests by its own entries, it does by the history
        all_rested : All (λ (w : WorkerView N). TakesPart w.seat → Rests m.number m.stands m.at_rest_as (w.node, w.fault) w.seat.mine) us
            → (i : ℕ) (b : N × Option NodeFault) → i < length ws → is_dead bus.base.plan.dead bus.base.kinds i ≡ false → Rests m.number m.stands m.at_rest_as (get_or left i b) (made_by i h)
        all_rested rest i b l alive =
            let inside : i < length us = omega (arith, l, went.count) in
            let d = some_of us i inside in
            let part : TakesPart (get_or us i d).seat =
            subst (λ (t : BusId × Option ℕ). MatchOption t.1 ⊥ (λ n. is_dead t.0.base.plan.dead t.0.base.kinds n ≡ false)) (sym (ended_tag i d inside)) alive
            in
            of_left (Rests m.number m.stands m.at_rest_as) i d b inside (rest i d inside part)

        -- what is known of each worker's own entries and its faults is known by the history
        all_met : All (λ (w : WorkerView N). HasMet m.faults m.waits w.node w.fault w.seat.mine) us → (i : ℕ) (b : N × Option NodeFault) → i < length ws → HasMet m.faults m.waits (get_or left i b).0 (get_or left i b).1 (made_by i h)
        all_met have i b l =
            let inside : i < length us = omega (arith, l, went.count) in
            let d = some_of us i inside in
            of_left (λ x. HasMet m.faults m.waits x.0 x.1) i d b inside (have i d inside)

        pub ran : Ran m bus nodes us left h
        ran =
            let same : length nodes ≡ length ws = sym (ap length nodes_are) ∙ length-map ws (λ (w : WorkerView N). w.node) in
            record {
              each = λ i a b l. all_walked i a b (omega (arith, l, same));
              fault = has_fault;
              rested = λ rest i b l. all_rested rest i b (omega (arith, l, same));
              met = λ have i b l. all_met have i b (omega (arith, l, same));
            }
