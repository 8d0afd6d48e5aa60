-- The worked intervals, computed.
use Rattle.std.specs.Option.{option_and_then, option_map, option_or}
use Rattle.std.proofs.Common.{◌≡◌, inl, ℕ, suc, ◌<◌, Bool, true, false, nat_lt, ◌==◌, List, [], ◌∷◌, ◌++◌, length, Some, None, refl, sym, ap, arith, lit<, not, is_some, filter, Option, length-append}
use Rattle.progress_laws.proofs.Words.{true≢false, ltb-true, eqb-true, not-true, of_two, at_node, Note, IsInterval, Ballot, is_same, same_true, same_batch, same_batch-true, Place, is_place, place_true, Packet, Prepare, Promise, Nack, Accept, Accepted, Chosen, Node, Dispatcher, Server, Replica, Joiner, To, Only, AnyJoiner, Input, Start, Deliver, IsNode, Addressed, Sent, shards, dispatcher_wants, ServerLive, is_below_limit, server_wants, IfUp, World, Entry, Begin, End, Stop, Fits, WasSent, MayBegin, May, IsRun, sends, after, world_after, same_node, UpWith, IsWork, put_in, ticks_of, ticks_due, is_unfinished, to_live, Carries, IsQuiet, HasNumbers, IsWithinLimits, NoWork, IsIdle, three, all_live, to_one, ends, plays, duel, restarts, beginning, down_again, stale, second, third, fourth, after_first, after_second, after_third, CarriesOnce, ThreeAreIdle, same_node-true}
use Rattle.photon_model.proofs.Words.{Cell}
use Rattle.progress_laws.specs.Rows.{first}
use Rattle.progress_laws.proofs.Moments.{put_back, row_at, begun_own}
use Rattle.progress_laws.proofs.Turning.{teaches, turns}

-- a list is longer than what is left of it
longer : (x : Sent) (rest ys : List Sent) → put_in x rest ys → length ys ≡ suc (length rest)
longer x rest ys (front, back, a, b) = let p = ap length a in let q = ap length b in let r = length-append front back in let t = length-append front (x ∷ back) in omega (arith, p, q, r, t)

pub carries_once : CarriesOnce
carries_once =
    record {
      once = grind arith;
      never = grind arith;
      before = grind (arith, longer);
      twice = λ (rest, p, (rest', q, c)). (let a : 1 ≡ suc (length rest) = longer _ rest _ p in let b = longer _ rest' rest q in absurd (omega (arith, a, b)));
    }

-- ---- what computes to a proof, or to nothing

got : {A : Type 0} (o : Option A) → is_some o ≡ true → A
got o e = grind arith

abbrev if_true : {A : Type 0} (b : Bool) → (b ≡ true → A) → Option A
if_true true f = Some (f refl)
if_true false f = None

abbrev with_two : {A B C : Type 0} → Option A → Option B → (A → B → C) → Option C
with_two a b f = option_and_then (λ x. option_map (f x) b) a

abbrev with_three : {A B C D : Type 0} → Option A → Option B → Option C → (A → B → C → D) → Option D
with_three a b c f = option_and_then (λ x. with_two b c (f x)) a

-- ---- packets compared

abbrev try_place : (p q : Place) → Option (p ≡ q)
try_place p q = if_true (is_place p q) (place_true p q)

abbrev try_ballot : (b c : Ballot) → Option (b ≡ c)
try_ballot b c = if_true (is_same b c) (same_true b c)

abbrev try_packet : (x y : Packet) → Option (x ≡ y)
try_packet (Prepare p b) (Prepare q c) = with_two (try_place p q) (try_ballot b c) (λ e f i. Prepare (e i) (f i))
try_packet (Promise p b None) (Promise q c None) = with_two (try_place p q) (try_ballot b c) (λ e f i. Promise (e i) (f i) None)
try_packet (Nack p b above) (Nack q c other) = with_three (try_place p q) (try_ballot b c) (try_ballot above other) (λ e f h i. Nack (e i) (f i) (h i))
try_packet (Accept p b v) (Accept q c w) = with_three (try_place p q) (try_ballot b c) (if_true (same_batch v w) (same_batch-true v w)) (λ e f h i. Accept (e i) (f i) (h i))
try_packet (Accepted p b) (Accepted q c) = with_two (try_place p q) (try_ballot b c) (λ e f i. Accepted (e i) (f i))
try_packet (Chosen p v) (Chosen q w) = with_two (try_place p q) (if_true (same_batch v w) (same_batch-true v w)) (λ e f i. Chosen (e i) (f i))
try_packet _ _ = None

-- the list without the first such packet
abbrev take_out : (x : Sent) (ys : List Sent) → Option ((rest : List Sent) × put_in x rest ys)
take_out x [] = None
take_out x (y ∷ ys) =
    option_or (with_three (if_true (same_node y.from x.from) (same_node-true _ _)) (if_true (same_node y.to x.to) (same_node-true _ _)) (try_packet y.packet x.packet) (λ a b c. (ys, ([], ys, refl, λ i. record { from = a i; to = b i; packet = c i } ∷ ys))))
    (option_map (λ (rest, (front, back, a, b)). (y ∷ rest, (y ∷ front, back, ap (λ zs. y ∷ zs) a, ap (λ zs. y ∷ zs) b))) (take_out x ys))

-- ---- what is played is a run

abbrev try_fit : {L : Type 0} (o : Option L) (i : Input) → Option (Fits o i)
try_fit None Start = Some tt
try_fit None _ = None
try_fit (Some l) Start = None
try_fit (Some l) _ = Some tt

abbrev try_sent : (sent : List Sent) (n : Node) (i : Input) → Option (WasSent sent n i)
try_sent sent n (Deliver from p) = option_map (λ (rest, p). put_back all_live _ _ rest sent p (inl refl)) (take_out (record { from = from; to = n; packet = p }) sent)
try_sent sent n _ = Some tt

abbrev try_closed : (o : Option Input) → Option (o ≡ None)
try_closed None = Some refl
try_closed (Some i) = None

abbrev try_addressed : (ps : List (To × Packet)) → Option (Addressed three ps (to_one ps))
try_addressed [] = Some tt
try_addressed ((Only n, p) ∷ ps) = option_map (λ h. ((refl, refl), h)) (try_addressed ps)
try_addressed ((AnyJoiner s, p) ∷ ps) = None

abbrev try_member : (n : Node) → Option (IsNode three n)
try_member (Dispatcher s) = if_true (nat_lt s 2) (ltb-true s 2)
try_member (Server s) = if_true (nat_lt s 2) (ltb-true s 2)
try_member (Replica r) = if_true (nat_lt r 3) (ltb-true r 3)
try_member (Joiner j) = None

abbrev begun : World → Node → Input → World
begun w n i = after three w (Begin n i)

-- the node's open turn ends as its row says
may_end : (w : World) (n : Node) (i : Input) → IsNode three n → (at_node w n).opened ≡ Some i → Addressed three (row_at three w n).packets (to_one (row_at three w n).packets) → May three w (ends w n)
may_end w n i is o a = grind arith

abbrev try_turn : (w : World) (n : Node) (i : Input) → Option (May three w (Begin n i) × May three (begun w n i) (ends (begun w n i) n))
try_turn w n i =
    with_three (try_member n) (with_three (try_closed (at_node w n).opened) (try_fit (at_node w n).live i) (try_sent w.sent n i) (λ a b c. (let m : MayBegin (at_node w n) w.sent n i = (a, b, c) in m))) (try_addressed (row_at three (begun w n i) n).packets)
    (λ is m a. ((is, m), may_end (begun w n i) n i is (ap (λ c. c.opened) (begun_own three w n i)) a))

abbrev try_played : (ts : List (Node × Input)) (w : World) → Option (IsRun three w (plays w ts))
try_played [] w = Some tt
try_played ((n, i) ∷ ts) w = with_two (try_turn w n i) (try_played ts (after three (begun w n i) (ends (begun w n i) n))) (λ t r. (t.0, (t.1, r)))

-- ---- what is carried

abbrev try_carried : (es : List Entry) (air : List Sent) → Option (Carries all_live air es)
try_carried [] [] = Some refl
try_carried [] (x ∷ air) = None
try_carried (Begin n (Deliver from p) ∷ es) air = option_and_then (λ (rest, put). option_map (λ c. (rest, put, c)) (try_carried es rest)) (take_out (record { from = from; to = n; packet = p }) air)
try_carried (Begin n _ ∷ es) air = try_carried es air
try_carried (End n o ps kept ∷ es) air = try_carried es (filter (to_live all_live) (sends n ps) ++ air)
try_carried (Stop n o ∷ es) air = None

-- ---- the setting's nodes

each_of_three : (P : ℕ → Type 0) → P 0 → P 1 → P 2 → (r : ℕ) → r < 3 → P r
each_of_three P a b c r lt = grind arith

each_node : (P : Node → Type 0) → ((s : ℕ) → s < 2 → P (Dispatcher s)) → ((s : ℕ) → s < 2 → P (Server s)) → ((r : ℕ) → r < 3 → P (Replica r)) → (n : Node) → IsNode three n → P n
each_node P d s r n is = grind arith

at_zero : (P : ℕ → Type 0) → P 0 → (k : ℕ) → k < 1 → P k
at_zero P p k lt = grind arith

abbrev try_two : (P : ℕ → Type 0) → ((s : ℕ) → Option (P s)) → Option ((s : ℕ) → s < 2 → P s)
try_two P f = with_two (f 0) (f 1) (of_two P)

abbrev try_three : (P : ℕ → Type 0) → ((r : ℕ) → Option (P r)) → Option ((r : ℕ) → r < 3 → P r)
try_three P f = with_three (f 0) (f 1) (f 2) (each_of_three P)

-- ---- limits and work, along a history

abbrev HasSlots : ServerLive → Type 0
HasSlots l = (k : ℕ) → k < shards three → is_below_limit (length (l.shards k).learned) ≡ true

abbrev try_low : (o : Option ServerLive) → Option (IfUp (λ (l : ServerLive). (is_below_limit l.round ≡ true) × HasSlots l) o)
try_low None = Some tt
try_low (Some l) = with_two (if_true (is_below_limit l.round) (λ e. e)) (if_true (is_below_limit (length (l.shards 0).learned)) (λ e. e)) (λ a b. (a, at_zero (λ k. is_below_limit (length (l.shards k).learned) ≡ true) b))

numbers : (w : World) → ((s : ℕ) → s < 2 → IfUp (λ (l : ServerLive). (is_below_limit l.round ≡ true) × HasSlots l) (w.servers s).live) → HasNumbers three w
numbers w h = grind arith

abbrev try_numbers : (w : World) → Option (HasNumbers three w)
try_numbers w = option_map (numbers w) (try_two _ (λ s. try_low (w.servers s).live))

-- a server's turn that takes nothing that teaches it a value is no work
no_work : (w : World) (s : ℕ) (o : Option Note) (ps : List (Node × Packet)) (kept : ℕ) (l : ServerLive) (i : Input) → (w.servers s).live ≡ Some l → (w.servers s).opened ≡ Some i → teaches i ≡ false → IsWork three w (End (Server s) o ps kept) → ⊥
no_work w s o ps kept l i up open_ none works = grind (arith, turns)

abbrev try_idle_turn : (w : World) (s : ℕ) (o : Option Note) (ps : List (Node × Packet)) (kept : ℕ) (l : Option ServerLive) → (w.servers s).live ≡ l → (i : Option Input) → (w.servers s).opened ≡ i → Option (IsWork three w (End (Server s) o ps kept) → ⊥)
try_idle_turn w s o ps kept (Some l) up (Some i) open_ = if_true (not (teaches i)) (λ e. no_work w s o ps kept l i up open_ (not-true (teaches i) e))
try_idle_turn w s o ps kept _ up _ open_ = None

abbrev try_no_work : (w : World) (e : Entry) → Option (IsWork three w e → ⊥)
try_no_work w (End (Server s) o ps kept) = try_idle_turn w s o ps kept (w.servers s).live refl (w.servers s).opened refl
try_no_work w (End (Dispatcher s) o ps kept) = None
try_no_work w (End (Joiner s) o ps kept) = None
try_no_work w _ = Some (λ works. works)

abbrev try_calm : (es : List Entry) (w : World) → Option (IsWithinLimits three w es × NoWork three w es)
try_calm [] w = option_map (λ n. (n, tt)) (try_numbers w)
try_calm (e ∷ es) w = with_three (try_numbers w) (try_no_work w e) (try_calm es (after three w e)) (λ n i c. ((n, c.0), (i, c.1)))

-- ---- the intervals

abbrev try_wants : {L : Type 0} (wants : L → Bool) (o : Option L) → Option (UpWith (λ l. wants l ≡ false) o)
try_wants wants None = None
try_wants wants (Some l) = if_true (not (wants l)) (not-true (wants l))

abbrev try_still : {K L : Type 0} (wants : L → Bool) (c : Cell K L) → Option ((c.opened ≡ None) × UpWith (λ l. wants l ≡ false) c.live)
try_still wants c = with_two (try_closed c.opened) (try_wants wants c.live) (λ a b. (a, b))

quiet : (w : World) → ((s : ℕ) → s < 2 → ((w.dispatchers s).opened ≡ None) × UpWith (λ l. dispatcher_wants l ≡ false) (w.dispatchers s).live) → ((s : ℕ) → s < 2 → ((w.servers s).opened ≡ None) × UpWith (λ l. server_wants three l ≡ false) (w.servers s).live) → ((r : ℕ) → r < 3 → ((w.replicas r).opened ≡ None) × UpWith (λ l. false ≡ false) (w.replicas r).live) → IsQuiet three all_live w
quiet w ds ss rs = grind arith

abbrev try_quiet : (w : World) → Option (IsQuiet three all_live w)
try_quiet w =
    with_three (try_two _ (λ s. try_still dispatcher_wants (w.dispatchers s))) (try_two _ (λ s. try_still (server_wants three) (w.servers s))) (try_three _ (λ r. try_still (λ _. false) (w.replicas r))) (quiet w)

abbrev try_ticks_of : (w : World) (es : List Entry) (n : Node) → Option (ticks_of n es ≡ ticks_due (is_unfinished three w n))
try_ticks_of w es n = if_true (ticks_of n es == ticks_due (is_unfinished three w n)) (eqb-true _ _)

abbrev try_ticks : (w : World) (es : List Entry) → Option ((n : Node) → IsNode three n → ticks_of n es ≡ ticks_due (is_unfinished three w n))
try_ticks w es = with_three (try_two _ (λ s. try_ticks_of w es (Dispatcher s))) (try_two _ (λ s. try_ticks_of w es (Server s))) (try_three _ (λ r. try_ticks_of w es (Replica r))) (each_node _)

abbrev try_interval : (w : World) (es : List Entry) → Option (IsInterval three all_live w es)
try_interval w es = option_and_then (λ t. with_three (try_quiet w) (try_quiet (world_after three w es)) (try_carried es []) (λ q r c. record { starts = q; ends = r; carries = c; ticks = t })) (try_ticks w es)

abbrev try_idle : (w : World) (ts : List (Node × Input)) → Option (IsIdle three all_live w (plays w ts))
try_idle w ts = with_three (try_played ts w) (try_interval w (plays w ts)) (try_calm (plays w ts) w) (λ r i c. record { run = r; interval = i; limits = c.0; no_work = c.1 })

pub three_are_idle : ThreeAreIdle
three_are_idle =
    record {
      first_lives = got (try_played duel beginning) refl;
      stop = ((lit< tt, (refl, tt, tt)), ((lit< tt, ((_, refl), inl refl)), ((lit< tt, (refl, tt, tt)), ((lit< tt, ((_, refl), inl refl)), tt))));
      second_lives = got (try_played restarts down_again) refl;
      idle = (got (try_idle stale first) refl, (got (try_idle after_first second) refl, (got (try_idle after_second third) refl, tt)));
      work_is_left = λ r. true≢false (sym (r.servers 0 (lit< tt)));
      goes_on = got (try_played fourth after_third) refl;
      last = got (try_interval after_third (plays after_third fourth)) refl;
      works = λ h. h.1.1.1.1.1.1.1.1.1.1.1.1.1.1.1.1.1.1.1.1.1.1.1.0 (0, lit< tt);
      rests = record { dispatchers = of_two _ refl refl; joiners = λ j is. absurd (grind arith); servers = of_two _ refl refl };
    }
