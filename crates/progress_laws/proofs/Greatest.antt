-- The greatest attempt of an idle interval at a place: a replica refuses it by a promise that is older than the interval.
use Rattle.std.proofs.Common.{◌≡◌, ◌⊎◌, inl, inr, ⊎_elim, ℕ, ◌<◌, ◌≤◌, Bool, true, false, ◌==◌, length, Some, None, refl, sym, ap, ◌∙◌, subst, lit<, arith, Option, eqb-true, eq-eqb, true≢false}
use Rattle.progress_laws.proofs.Words.{Ballot, IsBelow, IsUpTo, compared, upto_trans, Place, none_some, some_same, Setting, Packet, Prepare, Accept, Nack, Node, ServerLive, ShardState, World, is_out, IsPlain, is_left, next_of, promise_at}
use Rattle.progress_laws.proofs.Moments.{SitesUp}
use Rattle.progress_laws.proofs.Turning.{ballot_in, Stands, Asks}
use Rattle.progress_laws.proofs.Lasting.{OfShards, OfAllShards, HasCause}
use Rattle.progress_laws.proofs.Rising.{IsPromiseUpTo}

-- at most the greatest attempt so far
abbrev pub UpTo : Option Ballot → Ballot → Type 0
UpTo None b = ⊥
UpTo (Some u) b = IsUpTo b u

abbrev pub Grows : Option Ballot → Option Ballot → Type 0
Grows m n = (b : Ballot) → UpTo m b → UpTo n b

-- a promise is the old one, or at most the greatest attempt
abbrev pub Promised : Option Ballot → Option Ballot → Option Ballot → Type 0
Promised m old now = (now ≡ old) ⊎ ((b : Ballot) × (now ≡ Some b) × UpTo m b × IsPromiseUpTo old b)

pub promised_more : (m : Option Ballot) (old : Option Ballot) (was now : Option Ballot) (b : Ballot) → Promised m old was → now ≡ Some b → UpTo m b → IsPromiseUpTo was b → Promised m old now
promised_more m old was now b h e up le = inr (b, e, up, ⊎_elim (λ same. subst (λ o. IsPromiseUpTo o b) same le) (λ (x : (c : Ballot) × (was ≡ Some c) × UpTo m c × IsPromiseUpTo old c). (grind (arith, upto_trans))) h)

-- a promise is the old one, or at most the greatest attempt
pub promised_is : (m : Option Ballot) (old now : Option Ballot) (c : Ballot) → Promised m old now → now ≡ Some c → (old ≡ Some c) ⊎ UpTo m c
promised_is m old now c h e = ⊎_elim (λ same. inl (sym same ∙ e)) (λ (x : (b : Ballot) × (now ≡ Some b) × UpTo m b × IsPromiseUpTo old b). inr (subst (UpTo m) (some_same x.0 c (sym x.1 ∙ e)) x.2)) h

module _ (g : Setting) (dead : ℕ → Bool) (old : World) (at : Place) where
  -- a live replica refuses the ballot by an old promise, or by one that is at most the greatest attempt
  abbrev IsNack : Option Ballot → Ballot → Ballot → Type 0
  IsNack m b c = (r : ℕ) × (r < g.config.replicas) × (dead r ≡ false) × IsBelow b c × ((promise_at old r at ≡ Some c) ⊎ UpTo m c)

  -- what holds of a packet underway
  abbrev pub Fine : Option Ballot → Node → Packet → Type 0
  Fine m to (Prepare p b) = p ≡ at → UpTo m b × (is_out dead to ≡ false)
  Fine m to (Accept p b v) = p ≡ at → UpTo m b × (is_out dead to ≡ false)
  Fine m to (Nack p b c) = p ≡ at → IsNack m b c
  Fine m to _ = Unit {0}

  pub fine_grows : (m n : Option Ballot) → Grows m n → (to : Node) (p : Packet) → Fine m to p → Fine n to p
  fine_grows m n more to p f = grind arith

  pub plain_fine : (m : Option Ballot) (to : Node) (p : Packet) → IsPlain p → Fine m to p
  plain_fine m to p h = grind arith

  -- a server asks about attempts that stand
  pub asks_fine : (f : ℕ → ShardState) (m : Option Ballot) (to : Node) → is_out dead to ≡ false → ((b : Ballot) → Stands f at b → UpTo m b) → (p : Packet) → Asks f p → Fine m to p
  asks_fine f m to live up p a = grind arith

  -- the ballot was refused by an old promise, which the server's round has reached
  abbrev pub IsRefusedBy : Ballot → ℕ → Type 0
  IsRefusedBy b m = (r : ℕ) × (c : Ballot) × (r < g.config.replicas) × (dead r ≡ false) × (promise_at old r at ≡ Some c) × IsBelow b c × (c.round ≤ m)

  -- An attempt with the ballot was made at the place: it stands, or was refused so.
  abbrev pub IsMade : World → Ballot → Type 0
  IsMade w b =
      (s : ℕ) × (l : ServerLive) × (s < 2) × ((w.servers s).live ≡ Some l) × (next_of at.shard (l.shards at.shard) ≡ at) × (is_left g (l.shards at.shard) ≡ true)
      × ((ballot_in (l.shards at.shard).proposal ≡ Some b) ⊎ IsRefusedBy b l.round)

  -- an attempt at the place lies no higher
  abbrev pub AttemptUpTo : Option Ballot → ServerLive → Type 0
  AttemptUpTo m l = (b : Ballot) → Stands l.shards at b → UpTo m b

  -- the greatest attempt, and one server's besides
  abbrev More : World → Option Ballot → ServerLive → Type 0
  More w m l = (n : Option Ballot) × Grows m n × ((u : Ballot) → n ≡ Some u → IsMade w u) × AttemptUpTo n l

  with_one : (w : World) (m : Option Ballot) (s : ℕ) (l : ServerLive) → s < 2 → (w.servers s).live ≡ Some l → HasCause g (l.shards at.shard) → ((u : Ballot) → m ≡ Some u → IsMade w u) → More w m l
  with_one w m s l lt up cause made = by_ballot (ballot_in (l.shards at.shard).proposal) refl
    where
      keep : ((b : Ballot) → Stands l.shards at b → ⊥) → More w m l
      keep none = (m, λ b h. h, made, λ b h. absurd (none b h))

      raise : (b : Ballot) → Stands l.shards at b → (o : Option Ballot) → m ≡ o → More w m l
      raise b h None q = (Some b, λ x k. absurd (subst (λ o. UpTo o x) q k), λ u e. (s, l, lt, up, h.0, cause b h.1, inl (h.1 ∙ e)), λ c k. inr (some_same c b (sym k.1 ∙ h.1)))
      raise b h (Some u) q =
          ⊎_elim
          (λ (low : IsUpTo b u). (m, λ x k. k, made, λ c k. subst (λ o. UpTo o c) (sym q) (subst (λ z. IsUpTo z u) (some_same b c (sym h.1 ∙ k.1)) low)))
          (λ (high : IsBelow u b). (Some b, λ x k. upto_trans x u b (subst (λ o. UpTo o x) q k) (inl high), λ v e. (s, l, lt, up, h.0, cause b h.1, inl (h.1 ∙ e)), λ c k. inr (some_same c b (sym k.1 ∙ h.1))))
          (compared b u)

      by_slot : (b : Ballot) → ballot_in (l.shards at.shard).proposal ≡ Some b → (t : Bool) → (length (l.shards at.shard).learned == at.slot) ≡ t → More w m l
      by_slot b e true t = raise b (ap (λ x. record { shard = at.shard; slot = x }) (eqb-true (length (l.shards at.shard).learned) at.slot t), e) m refl
      by_slot b e false t = keep (λ c h. true≢false (sym (eq-eqb (length (l.shards at.shard).learned) at.slot (ap (λ (p : Place). p.slot) h.0)) ∙ t))

      by_ballot : (o : Option Ballot) → ballot_in (l.shards at.shard).proposal ≡ o → More w m l
      by_ballot None e = keep (λ c h. none_some c (sym e ∙ h.1))
      by_ballot (Some b) e = by_slot b e (length (l.shards at.shard).learned == at.slot) refl

  abbrev pub MoreOfBoth : World → Option Ballot → Type 0
  MoreOfBoth w m = (n : Option Ballot) × Grows m n × ((u : Ballot) → n ≡ Some u → IsMade w u) × ((s : ℕ) → s < 2 → (l : ServerLive) → (w.servers s).live ≡ Some l → AttemptUpTo n l)

  -- with both servers' attempts
  pub with_both : (w : World) (m : Option Ballot) → SitesUp w → OfAllShards (HasCause g) w → ((u : Ballot) → m ≡ Some u → IsMade w u) → MoreOfBoth w m
  with_both w m up cause made = (b.0, λ x h. b.1 x (a.1 x h), b.2, (grind arith))
    where
      causes : (s : ℕ) (l : ServerLive) → (w.servers s).live ≡ Some l → HasCause g (l.shards at.shard)
      causes s l e = subst (OfShards (HasCause g)) e (cause s) at.shard

      a : More w m (up 0 (lit< tt)).0
      a = let u = up 0 (lit< tt) in with_one w m 0 u.0 (lit< tt) u.1 (causes 0 u.0 u.1) made

      b : More w a.0 (up 1 (lit< tt)).0
      b = let u = up 1 (lit< tt) in with_one w a.0 1 u.0 (lit< tt) u.1 (causes 1 u.0 u.1) a.2
