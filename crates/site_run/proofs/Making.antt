-- Nodes that are made of disks which are taken out of others by their names, and stand at the places of their numbers.
use Rattle.std.proofs.Common.{◌≡◌, ◌≢◌, ℕ, ◌+◌, ◌*◌, ◌<◌, List, [], ◌∷◌, ◌++◌, length, map, get_or, Some, refl, sym, ◌∙◌, ap, subst, length-append, arith, remove, slice_index_or, ◌⊎◌, inl, inr, suc, ◌≤◌, Bool, IsTrue, None, append_assoc, Option}
use Rattle.site_run.proofs.Words.{IsPermutation, append-nil, length-map, take-append-drop, drop_more, IsPermutation-trans, IsPermutation-refl, IsPermutation-middle, IsPermutation-cons, length_permutation, Each, Mem, DiskName, ReplicaNote, PairRec, Setting, kept_as, notes_kept, Disks, joiner_of, Lent, Kept, OffsetIs, PendingAre, EpochIs, NotesAre, PairsAre, OpenView, Says, lent_by, offset_in, pending_in, epoch_in, other_names, others_count, IsTakenFrom, some_same, Node, IsNode, NumbersAreNodes, node_count, node_number, node_of, KeptOf, kept_of, AnyState, any_of, down_with, AreDownOver, AllAt, IsDownAt, Config, SameRecords, map-append, nil_from_length, IsPermutation-map, IsPermutation-append_comm, IsPermutation-append_left, IsPermutation-append_right, IsPermutation-sym, IsPermutation-to_front, each_more, AreKeptPlaces, IsLogOf, IsQueryLog, each_map, each_unmap, kept_by, lent_all, LentDisk, as_lent, all_from, IsUpAt, AreFrom, IsStart, IsRunnable, Makes, StockView, cases_lt, clicks_from, count_of, disks_from, disks_in, logs_in, number_of, queries_from, EpochDisk, OffsetDisk, OutputDisk, ReplicaDisk, RetryDisk, ServerDisk}
use Rattle.site_run.proofs.Places.{IsSeat}
use Rattle.site_run.proofs.Lists.{all_at_more, all_last}

-- ---- one is taken out

pub taken_is : {X : Type 0} (xs : List X) (i : ℕ) (x : X) → i < length xs → x ≡ get_or xs i x → IsTakenFrom xs x (remove xs i)
taken_is {X} xs i x lt is = grind (arith, take-append-drop, drop_more)

pub last_is : {X : Type 0} (xs ys : List X) (x : X) → xs ≡ ys ++ x ∷ [] → IsTakenFrom xs x ys
last_is xs ys x is = (ys, [], is, sym (append-nil ys))

-- ---- these are taken out one after the other

abbrev pub Took : {X : Type 0} → List X → List X → List X → Type 0
Took old [] new = old ≡ new
Took {X} old (u ∷ us) new = (mid : List X) × IsTakenFrom old u mid × Took mid us new

each_taken : {X : Type 0} (P : X → Type 0) (front back : List X) (one : X) → Each P (front ++ one ∷ back) → P one × Each P (front ++ back)
each_taken P [] back one all = all
each_taken P (x ∷ xs) back one all = let more = each_taken P xs back one all.1 in (more.0, (all.0, more.1))

pub each_took : {X : Type 0} (P : X → Type 0) (old us new : List X) → Took old us new → Each P old → Each P us × Each P new
each_took P old [] new took all = (tt, subst (Each P) took all)
each_took P old (u ∷ us) new (mid, (front, back, old_is, mid_is), more) all =
    let first = each_taken P front back u (subst (Each P) old_is all) in
    let later = each_took P mid us new more (subst (Each P) (sym mid_is) first.1) in
    ((first.0, later.0), later.1)

pub moved_took : {X : Type 0} (old us new : List X) → Took old us new → IsPermutation old (us ++ new)
moved_took old [] new took = subst (IsPermutation old) took (IsPermutation-refl old)
moved_took {X} old (u ∷ us) new (mid, (front, back, old_is, mid_is), more) =
    let one : IsPermutation old (u ∷ mid) = subst (λ (l : List X). IsPermutation l (u ∷ mid)) (sym old_is) (subst (λ (l : List X). IsPermutation (front ++ u ∷ back) (u ∷ l)) (sym mid_is) (IsPermutation-middle front u back)) in
    IsPermutation-trans old (u ∷ mid) (u ∷ (us ++ new)) one (IsPermutation-cons u mid (us ++ new) (moved_took mid us new more))

pub fewer_took : {X : Type 0} (old us new : List X) → Took old us new → length old ≡ length us + length new
fewer_took old us new took = omega (arith, length_permutation old (us ++ new) (moved_took old us new took), length-append us new)

module _ {D : Type 0} where
  abbrev names : List (OpenView D) → List DiskName
  names xs = map (λ (o : OpenView D). o.name) xs

  others_parts : (front back : List (OpenView D)) (one : OpenView D) (n : DiskName) → n ≢ one.name → Mem n (names (front ++ one ∷ back)) → Mem n (names (front ++ back))
  others_parts [] back one n other h = grind arith
  others_parts (x ∷ xs) back one n other h = grind (arith, others_parts xs back one n other)

  pub still_there : (n m : DiskName) (old mid : List (OpenView D)) (one : OpenView D) → one.name ≡ m → IsTakenFrom old one mid → n ≢ m → Mem n (names old) → Mem n (names mid)
  still_there n m old mid one named (front, back, old_is, mid_is) apart there =
      subst (λ (l : List (OpenView D)). Mem n (names l)) (sym mid_is) (others_parts front back one n (λ e. apart (e ∙ named)) (subst (λ (l : List (OpenView D)). Mem n (names l)) old_is there))

  pub still_all : (n : DiskName) (old us new : List (OpenView D)) → Took old us new → Each (λ u. n ≢ u.name) us → Mem n (names old) → Mem n (names new)
  still_all n old [] new took apart there = subst (λ (l : List (OpenView D)). Mem n (names l)) took there
  still_all n old (u ∷ us) new (mid, one, more) apart there = still_all n mid us new more apart.1 (still_there n u.name old mid u refl one apart.0 there)

  -- its disk under its name
  pub lent_is : (one : OpenView D) (n : DiskName) (x : D) → one.name ≡ n → one.disk ≡ x → record { name = n; disk = x } ≡ lent_by one
  lent_is one n x named is = ap (λ m. record { name = m; disk = x }) (sym named) ∙ ap (λ y. record { name = one.name; disk = y }) (sym is)

  pub pair_lent : (a b : OpenView D) (n m : DiskName) (x y : D) → a.name ≡ n → b.name ≡ m → a.disk ≡ x → b.disk ≡ y → record { name = n; disk = x } ∷ record { name = m; disk = y } ∷ [] ≡ lent_by a ∷ lent_by b ∷ []
  pair_lent a b n m x y named too is are =
      ap (λ (l : Lent D). l ∷ record { name = m; disk = y } ∷ []) (lent_is a n x named is) ∙ ap (λ (l : Lent D). lent_by a ∷ l ∷ []) (lent_is b m y too are)

-- ---- what the records say of it

pub dispatcher_said : (g : Setting) (d : Disks) (s x : ℕ) (xs : List ℕ) (n m : DiskName) (one other : Kept) → n ≡ OffsetDisk s → m ≡ RetryDisk s → one ≡ OffsetIs x → other ≡ PendingAre xs → Says g d n one → Says g d m other → d.dispatchers s ≡ kept_as x xs
dispatcher_said g d s x xs n m one other named too is are says say = grind arith

pub server_said : (g : Setting) (d : Disks) (s x : ℕ) (n : DiskName) (kept : Kept) → n ≡ ServerDisk s → kept ≡ EpochIs x → Says g d n kept → d.servers s ≡ record { epoch = x }
server_said g d s x n kept named is says = ap (λ k. record { epoch = epoch_in (Some k) }) (sym (subst (λ (m : DiskName). Says g d m kept) named says) ∙ is)

pub replica_said : (g : Setting) (d : Disks) (r : ℕ) (x : List ReplicaNote) (n : DiskName) (kept : Kept) → n ≡ ReplicaDisk r → kept ≡ NotesAre x → Says g d n kept → d.replicas r ≡ notes_kept x
replica_said g d r x n kept named is says = grind arith

pub joiner_said : (g : Setting) (d : Disks) (s j x : ℕ) (xs : List PairRec) (n m : DiskName) (one other : Kept) → n ≡ EpochDisk s j → m ≡ OutputDisk s j → one ≡ EpochIs x → other ≡ PairsAre xs → Says g d n one → Says g d m other
    → d.joiners (joiner_of g s j) ≡ record { epoch = x; pairs = xs }
joiner_said g d s j x xs n m one other named too is are says say = grind arith

pub opened_count : {D : Type 0} (joiners replicas : ℕ) (x : List (OpenView D)) → map (λ (o : OpenView D). o.name) x ≡ other_names joiners replicas → length x ≡ 6 + replicas + 4 * joiners
opened_count joiners replicas x named = sym (length-map x _) ∙ ap length named ∙ others_count joiners replicas

-- ---- a node at the place of its number

-- the node of this number is down over what its disks keep
pub down_at : {N : Type 0} (places : N → AnyState → Type 0) (g : Setting) (d : Disks) (node : N) (i : ℕ) (n : Node) → node_number n ≡ i → IsNode g n → (k : KeptOf n) → kept_of d n ≡ k → places node (any_of n (down_with g k)) → IsDownAt places g d i node
down_at places g d node i n at is k kept down = record { of = n; is = is; at = at; down = subst (λ (x : KeptOf n). places node (any_of n (down_with g x))) (sym kept) down }

-- a joiner's number by its site and its place there
pub joiner_number : (g : Setting) (c : Config) (n s p : ℕ) → g.config ≡ c → IsSeat c n s p → joiner_of g s p ≡ n
joiner_number g c n s p of seat = ap (λ k. 4 + k.replicas + s * k.joiners + p) of ∙ seat.number

-- ---- all of them

same_node : (g : Setting) → NumbersAreNodes g → (m n : Node) → IsNode g m → IsNode g n → node_number m ≡ node_number n → m ≡ n
same_node g law m n m_is n_is same = some_same m n (sym (law.of_number m m_is) ∙ ap (node_of g) same ∙ law.of_number n n_is)

pub are_down_over : {N : Type 0} (places : N → AnyState → Type 0) (g : Setting) (d : Disks) → NumbersAreNodes g → (nodes : List N) → length nodes ≡ node_count g → AllAt (IsDownAt places g d) nodes → AreDownOver places g d nodes
are_down_over places g d law nodes count all n is a = grind (arith, same_node)

-- nodes that are down over some records are so over any that say the same of them
pub down_too : {N : Type 0} (places : N → AnyState → Type 0) (g : Setting) (d e : Disks) (nodes : List N) → SameRecords g d e → AreDownOver places g d nodes → AreDownOver places g e nodes
down_too places g d e nodes same down n is a = subst (λ (k : KeptOf n). places (slice_index_or nodes (node_number n) a) (any_of n (down_with g k))) (same n is) (down n is a)

-- ---- lists in other orders

taken_front : {X : Type 0} (xs us r r' : List X) → IsPermutation r (us ++ r') → IsPermutation (xs ++ r) (us ++ (xs ++ r'))
taken_front xs us r r' moved =
    let front : IsPermutation ((xs ++ us) ++ r') ((us ++ xs) ++ r') = IsPermutation-append_left r' (xs ++ us) (us ++ xs) (IsPermutation-append_comm xs us) in
    IsPermutation-trans _ _ _ (IsPermutation-append_right xs r (us ++ r') moved) (subst (λ l. IsPermutation l (us ++ (xs ++ r'))) (append_assoc xs us r') (subst (IsPermutation ((xs ++ us) ++ r')) (append_assoc us xs r') front))

put_apart : {X : Type 0} (xs us r r' now : List X) → IsPermutation r (us ++ r') → now ≡ xs ++ us → IsPermutation (xs ++ r) (now ++ r')
put_apart xs us r r' now moved is = subst (λ l. IsPermutation (xs ++ r) (l ++ r')) (sym is) (subst (IsPermutation (xs ++ r)) (sym (append_assoc xs us r')) (IsPermutation-append_right xs r (us ++ r') moved))

both_moved : {X : Type 0} (a b us vs a' b' : List X) → IsPermutation a (us ++ a') → IsPermutation b (vs ++ b') → IsPermutation (a ++ b) ((us ++ vs) ++ (a' ++ b'))
both_moved a b us vs a' b' first second =
    let behind = taken_front a' vs b b' second in
    subst (IsPermutation (a ++ b)) (sym (append_assoc us vs (a' ++ b'))) (IsPermutation-trans _ _ _ (IsPermutation-append_left b a (us ++ a') first) (subst (λ l. IsPermutation l (us ++ (vs ++ (a' ++ b')))) (sym (append_assoc us a' b)) (IsPermutation-append_right us _ _ behind)))

-- what was there beside others
turned : {X : Type 0} (us new old all : List X) → IsPermutation old (us ++ new) → IsPermutation (old ++ all) (new ++ (all ++ us))
turned us new old all moved =
    let ends : IsPermutation (us ++ (new ++ all)) (new ++ (all ++ us)) = subst (IsPermutation (us ++ (new ++ all))) (append_assoc new all us) (IsPermutation-append_comm us (new ++ all)) in
    IsPermutation-trans _ _ _ (IsPermutation-append_left all old (us ++ new) moved) (subst (λ l. IsPermutation l (new ++ (all ++ us))) (sym (append_assoc us new all)) ends)

-- parts in a row, and what is put behind them
swapped : {X : Type 0} (xs ys zs : List X) → IsPermutation ((xs ++ ys) ++ zs) ((xs ++ zs) ++ ys)
swapped xs ys zs =
    subst (λ l. IsPermutation l ((xs ++ zs) ++ ys)) (sym (append_assoc xs ys zs)) (
    subst (IsPermutation (xs ++ (ys ++ zs))) (sym (append_assoc xs zs ys)) (IsPermutation-append_right xs (ys ++ zs) (zs ++ ys) (IsPermutation-append_comm ys zs))
    )

pub disks_given : {X : Type 0} (t t' : X) (p all rest p1 p2 p3 : List X) → p1 ≡ p ++ all → p2 ≡ p1 ++ rest → p3 ≡ p2 ++ t' ∷ [] → t' ≡ t → IsPermutation (t ∷ ((p ++ rest) ++ all)) p3
disks_given t t' p all rest p1 p2 p3 first second third same =
    subst (IsPermutation (t ∷ ((p ++ rest) ++ all))) (sym (third ∙ ap (λ x. p2 ++ x ∷ []) same ∙ ap (λ l. l ++ t ∷ []) (second ∙ ap (λ l. l ++ rest) first)))
    (IsPermutation-trans _ _ _ (IsPermutation-cons t _ _ (swapped p rest all)) (IsPermutation-sym _ _ (IsPermutation-to_front ((p ++ all) ++ rest) t)))

pub logs_given : {X : Type 0} (p all clicks queries p1 p2 p3 : List X) → p1 ≡ p ++ all → p2 ≡ p1 ++ clicks → p3 ≡ p2 ++ queries → IsPermutation ((p ++ (clicks ++ queries)) ++ all) p3
logs_given p all clicks queries p1 p2 p3 first second third =
    subst (IsPermutation ((p ++ (clicks ++ queries)) ++ all)) (sym (third ∙ ap (λ l. l ++ queries) (second ∙ ap (λ l. l ++ clicks) first) ∙ append_assoc (p ++ all) clicks queries)) (swapped p (clicks ++ queries) all)

pub size_given : {D : Type 0} (p p1 : List (LentDisk D)) (all : List (Lent D)) (rest : List (OpenView D)) → map as_lent p1 ≡ map as_lent p ++ all → length p1 + length rest ≡ length (map as_lent p ++ lent_all rest) + length all
size_given p p1 all rest is = omega (arith, ap length is, length-map p1 as_lent, length-map p as_lent, length-map rest lent_by, length-append (map as_lent p) all, length-append (map as_lent p) (lent_all rest))

pub logs_size : {X : Type 0} (p p1 all clicks queries : List X) → p1 ≡ p ++ all → length p1 + length clicks + length queries ≡ length (p ++ (clicks ++ queries)) + length all
logs_size p p1 all clicks queries is = omega (arith, ap length is, length-append p all, length-append p (clicks ++ queries), length-append clicks queries)

-- what was put to the parts, by another name
pub put_as : {X : Type 0} (xs us vs now : List X) → now ≡ xs ++ us → us ≡ vs → now ≡ xs ++ vs
put_as xs us vs now is same = is ∙ ap (λ l. xs ++ l) same

pub put_two : {X : Type 0} (xs vs mid now : List X) (a b : X) → mid ≡ xs ++ a ∷ [] → now ≡ mid ++ b ∷ [] → a ∷ b ∷ [] ≡ vs → now ≡ xs ++ vs
put_two xs vs mid now a b first second same = put_as xs (a ∷ b ∷ []) vs now (second ∙ ap (λ l. l ++ b ∷ []) first ∙ append_assoc xs (a ∷ []) (b ∷ [])) same

pub put_log : {X : Type 0} (xs mid now : List X) (a b : X) → mid ≡ xs → now ≡ mid ++ a ∷ [] → a ≡ b → now ≡ xs ++ b ∷ []
put_log xs mid now a b first second same = second ∙ ap (λ l. l ++ a ∷ []) first ∙ ap (λ x. xs ++ x ∷ []) same

-- ---- how many disks there are from a node on

sum_less : (a b c d a' b' c' d' : ℕ) → a ≡ a' → d ≡ d' → (b ≡ suc b') × (c ≡ c') ⊎ (b ≡ b') × (c ≡ suc c') → 2 * a + b + c + 2 * d ≡ 1 + (2 * a' + b' + c' + 2 * d')
sum_less a b c d a' b' c' d' first last (inl less) = omega (arith, first, last, less.0, less.1)
sum_less a b c d a' b' c' d' first last (inr less) = omega (arith, first, last, less.0, less.1)

-- a server or a replica has one
one_disk : (k : Config) (i : ℕ) → 2 ≤ i → i < 4 + k.replicas → disks_from k i ≡ 1 + disks_from k (suc i)
one_disk k i from below = grind (arith, sum_less, cases_lt)

-- ---- these disks and logs are of the node of this number, and no others are

module _ {D L : Type 0} (bytes : L → List ℕ) (i : ℕ) (old new : StockView D L) where
  pub record Uses (us : List (OpenView D)) (cs qs : List L) : Type 0 where
    pub config : new.config ≡ old.config
    pub rest : Took old.rest us new.rest
    pub clicks : Took old.clicks cs new.clicks
    pub queries : Took old.queries qs new.queries
    pub own : Each (λ u. number_of old.config u.name ≡ i) us
    pub disk_count : disks_from old.config i ≡ length us + disks_from old.config (suc i)
    pub click_count : clicks_from i ≡ length cs + clicks_from (suc i)
    pub query_count : queries_from old.config i ≡ length qs + queries_from old.config (suc i)

  module _ (us : List (OpenView D)) (cs qs : List L) (uses : Uses us cs qs) where
    from_next : AreFrom i old → (new.disks ≡ []) × (new.logs ≡ []) → AreFrom (suc i) new
    from_next left none =
        let disks = fewer_took old.rest us new.rest uses.rest in
        let clicks = fewer_took old.clicks cs new.clicks uses.clicks in
        let queries = fewer_took old.queries qs new.queries uses.queries in
        record {
          ranges = subst IsRunnable (sym uses.config) left.ranges;
          there = λ n among from.
              let k = old.config in
              let le : suc i ≤ number_of k n = subst (λ (c : Config). suc i ≤ number_of c n) uses.config from in
              still_all n old.rest us new.rest uses.rest (each_more (λ u. number_of k u.name ≡ i) (λ u. n ≢ u.name) us (λ u at e. omega (arith, le, at, ap (number_of k) e)) uses.own)
              (left.there n (subst (λ (c : Config). Mem n (other_names c.joiners c.replicas)) uses.config among) (omega (arith, le)));
          disks = subst (λ (c : Config). length new.rest ≡ disks_from c (suc i)) (sym uses.config) (omega (arith, disks, left.disks, uses.disk_count));
          clicks = omega (arith, clicks, left.clicks, uses.click_count);
          queries = subst (λ (c : Config). length new.queries ≡ queries_from c (suc i)) (sym uses.config) (omega (arith, queries, left.queries, uses.query_count));
          none = none;
        }

    abbrev own_start : (g : Setting) (d : Disks) → Type 0
    own_start g d = Each (λ u. Says g d u.name u.kept) us × Each (λ l. IsLogOf (bytes l) g) cs × Each (λ l. IsQueryLog (bytes l) g.queries) qs

    start_next : (g : Setting) (d : Disks) → IsStart bytes old.clicks old.queries old.rest old.config g d → own_start g d × IsStart bytes new.clicks new.queries new.rest new.config g d
    start_next g d start =
        let disks = each_took (λ (u : OpenView D). Says g d u.name u.kept) old.rest us new.rest uses.rest (each_unmap (λ k. Says g d k.name k.kept) kept_by old.rest start.records) in
        let clicks = each_took (λ (l : L). IsLogOf (bytes l) g) old.clicks cs new.clicks uses.clicks start.logs.clicks_are in
        grind (arith, each_took, each_map)

    disks_moved : IsPermutation (lent_all old.rest) (lent_all us ++ lent_all new.rest)
    disks_moved = subst (IsPermutation (lent_all old.rest)) (map-append lent_by us new.rest) (IsPermutation-map lent_by old.rest (us ++ new.rest) (moved_took old.rest us new.rest uses.rest))

    logs_moved : IsPermutation (old.clicks ++ old.queries) ((cs ++ qs) ++ (new.clicks ++ new.queries))
    logs_moved = both_moved old.clicks old.queries cs qs new.clicks new.queries (moved_took old.clicks cs new.clicks uses.clicks) (moved_took old.queries qs new.queries uses.queries)

    module _ {N : Type 0} (number : N → ℕ) (waits : N → Bool) (places : N → AnyState → Type 0) (disks_of : Config → ℕ → N → List (Lent D)) (logs_of : N → List L) (tells : Bool) (left : AreFrom i old) where
      pub made : (n : N) → new.disks ≡ old.disks → new.logs ≡ old.logs → IsUpAt number waits i n → disks_of old.config i n ≡ lent_all us → logs_of n ≡ cs ++ qs
          → (IsTrue tells → (g : Setting) (d : Disks) → g.config ≡ old.config → ((s : ℕ) → s < 2 → AreKeptPlaces g (d.dispatchers s)) → own_start g d → IsDownAt places g d i n)
          → Makes number waits places disks_of logs_of tells bytes i old (Some n) new
      made n disks_same logs_same up disks_are logs_are down =
          let none : (new.disks ≡ []) × (new.logs ≡ []) = (disks_same ∙ left.none.0, logs_same ∙ left.none.1) in
          record {
            config = uses.config;
            left = from_next left none;
            few = (omega (arith, ap length none.0), omega (arith, ap length none.1));
            up = up;
            over = λ t g d start. let next = start_next g d start in (next.1, down t g d start.logs.numbers start.places next.0);
            disks = subst (λ l. IsPermutation (disks_in old) (l ++ disks_in new)) (sym disks_are) (subst (λ l. IsPermutation (disks_in old) (lent_all us ++ (map as_lent l ++ lent_all new.rest))) (sym disks_same) (taken_front (map as_lent old.disks) (lent_all us) (lent_all old.rest) (lent_all new.rest) disks_moved));
            logs = subst (λ l. IsPermutation (logs_in old) (l ++ logs_in new)) (sym logs_are) (subst (λ l. IsPermutation (logs_in old) ((cs ++ qs) ++ (l ++ (new.clicks ++ new.queries)))) (sym logs_same) (taken_front old.logs (cs ++ qs) (old.clicks ++ old.queries) (new.clicks ++ new.queries) logs_moved));
          }

      pub unmade : map as_lent new.disks ≡ map as_lent old.disks ++ lent_all us → new.logs ≡ old.logs ++ (cs ++ qs) → (length us ≤ 2) × (length (cs ++ qs) ≤ 1) → Makes number waits places disks_of logs_of tells bytes i old None new
      unmade disks_are logs_are few = record {
        config = uses.config;
        left = tt;
        few = (
          omega (arith, few.0, ap length disks_are, length-append (map as_lent old.disks) (lent_all us), length-map new.disks as_lent, length-map us lent_by, ap (λ l. length (map as_lent l)) left.none.0),
          omega (arith, few.1, ap length logs_are, length-append old.logs (cs ++ qs), ap length left.none.1),
        );
        up = tt;
        over = λ t g d start. ((start_next g d start).1, tt);
        disks = put_apart (map as_lent old.disks) (lent_all us) (lent_all old.rest) (lent_all new.rest) (map as_lent new.disks) disks_moved disks_are;
        logs = put_apart old.logs (cs ++ qs) (old.clicks ++ old.queries) (new.clicks ++ new.queries) new.logs logs_moved logs_are;
      }

  -- one disk of a server or of a replica
  pub one_used : (a : OpenView D) → 2 ≤ i → i < 4 + old.config.replicas → new.config ≡ old.config → IsTakenFrom old.rest a new.rest → number_of old.config a.name ≡ i → old.clicks ≡ new.clicks → old.queries ≡ new.queries → Uses (a ∷ []) [] []
  one_used a from below config taken own clicks queries = grind (arith, one_disk)

  -- two disks and a log of a dispatcher
  pub first_used : (a b : OpenView D) (log : L) (mid : List (OpenView D)) → i < 2 → new.config ≡ old.config → IsTakenFrom old.rest a mid → IsTakenFrom mid b new.rest → number_of old.config a.name ≡ i → number_of old.config b.name ≡ i → old.clicks ≡ new.clicks ++ log ∷ [] → old.queries ≡ new.queries
      → Uses (a ∷ b ∷ []) (log ∷ []) []
  first_used a b log mid below config first second own too clicks queries = record {
    config = config;
    rest = (mid, first, (new.rest, second, refl));
    clicks = (new.clicks, last_is old.clicks new.clicks log clicks, refl);
    queries = queries;
    own = (own, (too, tt));
    disk_count = omega (arith, below);
    click_count = omega (arith, below);
    query_count = omega (arith, below);
  }

  -- two disks and a log of a joiner
  pub two_used : (a b : OpenView D) (log : L) (mid : List (OpenView D)) → 4 + old.config.replicas ≤ i → i < count_of old.config → new.config ≡ old.config → IsTakenFrom old.rest a mid → IsTakenFrom mid b new.rest → number_of old.config a.name ≡ i → number_of old.config b.name ≡ i
      → old.clicks ≡ new.clicks → old.queries ≡ new.queries ++ log ∷ [] → Uses (a ∷ b ∷ []) [] (log ∷ [])
  two_used a b log mid from below config first second own too clicks queries = record {
    config = config;
    rest = (mid, first, (new.rest, second, refl));
    clicks = clicks;
    queries = (new.queries, last_is old.queries new.queries log queries, refl);
    own = (own, (too, tt));
    disk_count = omega (arith, from, below);
    click_count = omega (arith, from);
    query_count = omega (arith, from, below);
  }

-- all are to come
pub at_first : {D L : Type 0} (l : StockView D L) → IsRunnable l.config → map (λ (o : OpenView D). o.name) l.rest ≡ other_names l.config.joiners l.config.replicas → length l.clicks ≡ 2 → length l.queries ≡ 2 * l.config.joiners → (l.disks ≡ []) × (l.logs ≡ []) → AreFrom 0 l
at_first l ranges named clicks queries none = grind (arith, opened_count)

-- ---- one node after the other

module _ {N D L : Type 0} (number : N → ℕ) (waits : N → Bool) (places : N → AnyState → Type 0) (disks_of : Config → ℕ → N → List (Lent D)) (logs_of : N → List L) (tells : Bool) (bytes : L → List ℕ) (start : StockView D L) where
  -- these nodes are made
  pub record AreMade (nodes : List N) (now : StockView D L) : Type 0 where
    pub config : now.config ≡ start.config
    pub left : AreFrom (length nodes) now
    pub up : AllAt (IsUpAt number waits) nodes
    pub over : IsTrue tells → (g : Setting) (d : Disks) → IsStart bytes start.clicks start.queries start.rest start.config g d → IsStart bytes now.clicks now.queries now.rest now.config g d × AllAt (IsDownAt places g d) nodes
    pub disks : IsPermutation (lent_all start.rest) (disks_in now ++ all_from (disks_of start.config) 0 nodes)
    pub logs : IsPermutation (start.clicks ++ start.queries) (logs_in now ++ all_from (λ _. logs_of) 0 nodes)

  -- none yet
  pub none_made : (nodes : List N) → nodes ≡ [] → AreFrom 0 start → AreMade nodes start
  none_made nodes none left = grind (arith, append-nil)

  pub from_at : (nodes : List N) (now : StockView D L) (k : ℕ) → AreMade nodes now → length nodes ≡ k → AreFrom k now
  from_at nodes now k so at = subst (λ m. AreFrom m now) at so.left

  -- all disks and logs are at the nodes, once all are made
  pub record IsEnded (nodes : List N) (now : StockView D L) : Type 0 where
    pub rest : length now.rest ≡ 0
    pub clicks : length now.clicks ≡ 0
    pub queries : length now.queries ≡ 0
    pub held : IsPermutation (lent_all start.rest) (all_from (disks_of start.config) 0 nodes)

  pub ended : (nodes : List N) (now : StockView D L) → AreMade nodes now → length nodes ≡ count_of start.config → IsEnded nodes now
  ended nodes now so all = grind (arith, nil_from_length)

  module _ (nodes : List N) (old new : StockView D L) (so : AreMade nodes old) where
    step_at : (made : Option N) (k : ℕ) → length nodes ≡ k → Makes number waits places disks_of logs_of tells bytes k old made new → Makes number waits places disks_of logs_of tells bytes (length nodes) old made new
    step_at made k at step = subst (λ m. Makes number waits places disks_of logs_of tells bytes m old made new) (sym at) step

    pub one_made : (n : N) (nodes' : List N) (k : ℕ) → length nodes ≡ k → nodes' ≡ nodes ++ n ∷ [] → Makes number waits places disks_of logs_of tells bytes k old (Some n) new → AreMade nodes' new
    one_made n nodes' k at is made =
        let step = step_at (Some n) k at made in
        let next : length (nodes ++ n ∷ []) ≡ suc (length nodes) = omega (arith, length-append nodes (n ∷ [])) in
        let own = ap (λ c. disks_of c (length nodes) n) so.config in
        subst (λ l. AreMade l new) (sym is)
        (record {
          config = step.config ∙ so.config;
          left = subst (λ k. AreFrom k new) (sym next) step.left;
          up = all_at_more _ _ _ _ _ refl refl step.up so.up;
          over = λ t g d begins.
              let before = so.over t g d begins in
              let after = step.over t g d before.0 in
              (after.0, all_at_more _ _ _ _ _ refl refl after.1 before.1);
          disks = IsPermutation-trans _ _ _ so.disks (subst (λ l. IsPermutation (disks_in old ++ all_from (disks_of start.config) 0 nodes) (disks_in new ++ l)) (ap (λ l. all_from (disks_of start.config) 0 nodes ++ l) own ∙ sym (all_last (disks_of start.config) nodes n)) (turned _ (disks_in new) (disks_in old) _ step.disks));
          logs = IsPermutation-trans _ _ _ so.logs (subst (λ l. IsPermutation (logs_in old ++ all_from (λ _. logs_of) 0 nodes) (logs_in new ++ l)) (sym (all_last (λ _. logs_of) nodes n)) (turned _ (logs_in new) (logs_in old) _ step.logs));
        })

    -- the next one isn't
    pub record IsStopped : Type 0 where
      pub config : new.config ≡ start.config
      pub disks : IsPermutation (lent_all start.rest) (disks_in new ++ all_from (disks_of new.config) 0 nodes)
      pub logs : IsPermutation (start.clicks ++ start.queries) (logs_in new ++ all_from (λ _. logs_of) 0 nodes)
      pub disk_count : length (disks_in new) + length (all_from (disks_of new.config) 0 nodes) ≡ length start.rest
      pub log_count : length (logs_in new) + length (all_from (λ _. logs_of) 0 nodes) ≡ length start.clicks + length start.queries

    pub stopped : (k : ℕ) → length nodes ≡ k → Makes number waits places disks_of logs_of tells bytes k old None new → IsStopped
    stopped k at none =
        let step = step_at None k at none in
        let same = step.config ∙ so.config in
        let disks : IsPermutation (lent_all start.rest) (disks_in new ++ all_from (disks_of new.config) 0 nodes) =
        subst (λ c. IsPermutation (lent_all start.rest) (disks_in new ++ all_from (disks_of c) 0 nodes)) (sym same) (IsPermutation-trans _ _ _ so.disks (IsPermutation-append_left _ (disks_in old) (disks_in new) step.disks)) in
        let logs : IsPermutation (start.clicks ++ start.queries) (logs_in new ++ all_from (λ _. logs_of) 0 nodes) =
        IsPermutation-trans _ _ _ so.logs (IsPermutation-append_left _ (logs_in old) (logs_in new) step.logs) in
        record {
          config = same;
          disk_count = omega (arith, length_permutation _ _ disks, length-append (disks_in new) (all_from (disks_of new.config) 0 nodes), length-map start.rest lent_by);
          log_count = omega (arith, length_permutation _ _ logs, length-append (logs_in new) (all_from (λ _. logs_of) 0 nodes), length-append start.clicks start.queries);
          disks = disks;
          logs = logs;
        }
