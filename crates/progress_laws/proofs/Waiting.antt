-- What is left to do at a server stays so where nothing is learned, as in an interval in which nothing is done; and an insert
-- that comes is answered, or waits.
use Rattle.std.proofs.Common.{◌≡◌, ⊎_elim, ℕ, ◌≤◌, Bool, List, Some, refl, sym, ◌∙◌, subst, ◌⊎◌, inl, inr, ◌<◌, true, ◌||◌, ◌==◌, nat_lt, nat_le, ◌∷◌, ◌++◌, length, None, ap, [], Option, not}
use Rattle.progress_laws.proofs.Words.{MOST_WAITING, Setting, Input, Server, Sent, ServerLive, server_turn, World, Entry, server_row, after, Insert, Token, Answer, bound_of, replay, Mem, mem_right, shard, shards, Out, idle, is_empty, Reply, Node, Joiner, Only, ServerKept, ShardState, queued, is_own_joiner, claimed, server_gets, cond_both, cond-true, eq-eqb, or_cases, or_left, or_right, true≢false, is_left}
use Rattle.progress_laws.proofs.Moments.{opened_at, IsEnd, Step, turned, lives, ends, no_work}
use Rattle.progress_laws.proofs.Turning.{Same, Fate, AllAsk, Turns, turns}
use Rattle.turn_defs.specs.declared.packet.Packet.TheVariants as packet

-- the site's server is up, and something is left to do in one of its shards
abbrev pub IsLeftAt : Setting → World → ℕ → Type 0
IsLeftAt g w s = (l : ServerLive) × ((w.servers s).live ≡ Some l) × ((k : ℕ) × (k < shards g) × (is_left g (l.shards k) ≡ true))

pub some_empty : {A : Type 0} (xs : List A) (x : A) → Mem x xs → not (is_empty xs) ≡ true
some_empty [] x m = absurd m
some_empty (y ∷ xs) x m = refl

some_waits : (xs : List Insert) → not (is_empty xs) ≡ true → (x : Insert) × Mem x xs
some_waits [] e = absurd (true≢false (sym e))
some_waits (x ∷ xs) e = (x, inl refl)

-- where an insert waits something is left to do
pub waits_left : (g : Setting) (st : ShardState) (x : Insert) → Mem x st.queue → is_left g st ≡ true
waits_left g st x m = or_left (not (is_empty st.queue)) (nat_lt (bound_of st.learned) g.config.horizon) (some_empty st.queue x m)

-- and what is left stays so where nothing is learned
pub still_left : (g : Setting) (st now : ShardState) → Same st now → is_left g st ≡ true → is_left g now ≡ true
still_left g st now same e =
    ⊎_elim
    (λ q. let x = some_waits st.queue q in waits_left g now x.0 (same.1 x.0 x.1))
    (λ b. or_right (not (is_empty now.queue)) (nat_lt (bound_of now.learned) g.config.horizon) (ap (λ vs. nat_lt (bound_of vs) g.config.horizon) same.0 ∙ b))
    (or_cases (not (is_empty st.queue)) (nat_lt (bound_of st.learned) g.config.horizon) e)

module _ (g : Setting) (site : ℕ) (k : ServerKept) (l : ServerLive) where
  -- an insert that comes is answered, or inserts wait in its shard
  abbrev pub Heard : Insert → Out ServerLive → Type 0
  Heard x o = ((a : Answer) × Mem (Only (Joiner x.token.joiner), Reply x a) o.packets) ⊎ ((y : Insert) × Mem y (o.live.shards (shard g x.id)).queue)

  queued_some : (xs : List Insert) (t : Token) → (queued xs t || nat_le MOST_WAITING (length xs)) ≡ true → (y : Insert) × Mem y xs
  queued_some [] t e = absurd (true≢false (sym e))
  queued_some (y ∷ xs) t e = (y, inl refl)

  pub insert_heard : (from : Node) (x : Insert) → is_own_joiner g site x.token.joiner ≡ true → Heard x (server_gets g site k l from (packet.Insert x))
  insert_heard from x own = go (replay (l.shards (shard g x.id)).learned x.id x.token)
    where
      s : ℕ
      s = shard g x.id

      go : (o : Option Answer) → Heard x (claimed g site k l x s (l.shards s) o)
      go (Some a) = inl (a, subst (Mem (Only (Joiner x.token.joiner), Reply x a)) (sym (cond-true (is_own_joiner g site x.token.joiner) ((Only (Joiner x.token.joiner), Reply x a) ∷ []) [] own)) (inl refl))
      go None =
          cond_both (queued (l.shards s).queue x.token || nat_le MOST_WAITING (length (l.shards s).queue)) (idle l) _ (Heard x)
          (λ e. inr (queued_some (l.shards s).queue x.token e))
          (λ _. inr (x, subst (λ (c : ShardState). Mem x c.queue) (sym (cond-true (s == s) (record (l.shards s) { queue = (l.shards s).queue ++ x ∷ [] }) (l.shards s) (eq-eqb s s refl))) (mem_right x (l.shards s).queue (x ∷ []) (inl refl))))

-- ---- in an interval in which nothing is done

-- a server's turn that learns nothing
pub record CalmTurn (g : Setting) (w : World) (s : ℕ) (l : ServerLive) : Type 0 where
  pub input : Input
  pub opened : opened_at w (Server s) ≡ Some input
  pub row_is : server_row g s (w.servers s) ≡ server_turn g s (w.servers s).kept l input
  pub rounds : l.round ≤ (server_row g s (w.servers s)).live.round
  pub each : (n : ℕ) → Same (l.shards n) ((server_row g s (w.servers s)).live.shards n) × Fate g s (w.servers s).kept l input (server_row g s (w.servers s)).live.round n (l.shards n) ((server_row g s (w.servers s)).live.shards n)
  pub asks : AllAsk (server_row g s (w.servers s)).live.shards (server_row g s (w.servers s)).packets

module _ {g : Setting} {dead : ℕ → Bool} {w : World} {air next : List Sent} {e : Entry} {es : List Entry} (step : Step g dead w air next e es) (s : ℕ) where
  pub calm_turn : (l : ServerLive) → (w.servers s).live ≡ Some l → IsEnd e (Server s) → CalmTurn g w s l
  calm_turn l up end =
      let i = (ends step (Server s) end).1.0 in
      let is : server_row g s (w.servers s) ≡ server_turn g s (w.servers s).kept l i.0 = turned g w (Server s) l i.0 up i.1 in
      let all : Turns g s (w.servers s).kept l i.0 (server_row g s (w.servers s)) = subst (Turns g s (w.servers s).kept l i.0) (sym is) (turns g s (w.servers s).kept l i.0) in
      record {
        input = i.0;
        opened = i.1;
        row_is = is;
        rounds = all.rounds;
        each = λ n. ⊎_elim (λ h. h) (λ h. absurd (no_work step (Server s) l up end (λ _. (n, h.0)))) (all.each n);
        asks = all.asks;
      }

  -- a server that is up stays so, and what waits goes on to wait
  pub server_waits : (l : ServerLive) → (w.servers s).live ≡ Some l → (m : ServerLive) × (((after g w e).servers s).live ≡ Some m) × ((k : ℕ) → Same (l.shards k) (m.shards k))
  server_waits l up =
      lives step (Server s) (λ same. (l, same ∙ up, λ k. (refl, λ x q. q))) (λ end now. ((server_row g s (w.servers s)).live, now, λ k. ((calm_turn l up end).each k).0))

  pub left_stays : IsLeftAt g w s → IsLeftAt g (after g w e) s
  left_stays (l, up, (k, lt, left)) = let m = server_waits l up in (m.0, m.1, (k, lt, still_left g (l.shards k) (m.0.shards k) (m.2 k) left))
