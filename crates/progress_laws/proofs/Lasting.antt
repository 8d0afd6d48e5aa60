-- What each turn of a server keeps of its shards holds after every run.
use Rattle.std.proofs.Common.{◌≡◌, inl, inr, ⊎_elim, ℕ, true, List, [], ◌∷◌, Some, sym, ap, ◌∙◌, subst, arith, Option}
use Rattle.progress_laws.proofs.Words.{Ballot, none_some, Setting, Input, ServerKept, ServerLive, ShardState, empty_shard, server_start, server_turn, IfUp, World, Entry, Disks, server_row, after, world_after, opening, Out, row_by, is_left}
use Rattle.progress_laws.proofs.Turning.{ballot_in, Fate, turns}
use Rattle.progress_laws.proofs.Waiting.{still_left}

-- P holds of each shard of a server that is up
abbrev pub OfShards : (ShardState → Type 0) → Option ServerLive → Type 0
OfShards P o = IfUp (λ (l : ServerLive). (n : ℕ) → P (l.shards n)) o

-- and so it is at both sites
abbrev pub OfAllShards : (ShardState → Type 0) → World → Type 0
OfAllShards P w = (s : ℕ) → OfShards P (w.servers s).live

module _ (g : Setting) (P : ShardState → Type 0) (empty : P empty_shard) (keeps : (s : ℕ) (k : ServerKept) (l : ServerLive) → ((n : ℕ) → P (l.shards n)) → (i : Input) (n : ℕ) → P ((server_turn g s k l i).live.shards n)) where
  row_has : (w : World) (s : ℕ) → OfAllShards P w → (n : ℕ) → P ((server_row g s (w.servers s)).live.shards n)
  row_has w s h = row_by server_start (server_turn g s) (w.servers s).kept (w.servers s).live (w.servers s).opened (λ (o : Out ServerLive). (n : ℕ) → P (o.live.shards n)) (λ n. empty) (λ l up i _. keeps s (w.servers s).kept l (subst (OfShards P) up (h s)) i)

  pub lasts : (w : World) (e : Entry) → OfAllShards P w → OfAllShards P (after g w e)
  lasts w e h = grind (arith, row_has)

  pub after_run : (d : Disks) (es : List Entry) → OfAllShards P (world_after g (opening d) es)
  after_run d es = go es (opening d) (λ s. tt)
    where
      go : (es : List Entry) (w : World) → OfAllShards P w → OfAllShards P (world_after g w es)
      go [] w h = h
      go (e ∷ es) w h = go es (after g w e) (lasts w e h)

-- ---- where an attempt stands something is left to do

abbrev pub HasCause : Setting → ShardState → Type 0
HasCause g st = (b : Ballot) → ballot_in st.proposal ≡ Some b → is_left g st ≡ true

module _ (g : Setting) where
  pub cause_kept : (s : ℕ) (k : ServerKept) (l : ServerLive) → ((n : ℕ) → HasCause g (l.shards n)) → (i : Input) (n : ℕ) → HasCause g ((server_turn g s k l i).live.shards n)
  cause_kept s k l h i n b e = ⊎_elim (λ x. still_left g (l.shards n) now x.0 (was x.1)) (λ x. none_some b (sym (ap ballot_in x.1) ∙ e)) ((turns g s k l i).each n)
    where
      now : ShardState
      now = (server_turn g s k l i).live.shards n

      was : Fate g s k l i (server_turn g s k l i).live.round n (l.shards n) now → is_left g (l.shards n) ≡ true
      was (inl x) = h n b (sym x.0 ∙ e)
      was (inr (inl x)) = x.2
      was (inr (inr (r, b', c, i', stood, gone, le))) = none_some b (sym gone ∙ e)
