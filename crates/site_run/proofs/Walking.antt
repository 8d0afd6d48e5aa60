-- What leads a node of any kind on leads the node of the system on.
use Rattle.std.proofs.Common.{◌≡◌, inl, inr, ℕ, List, [], ◌∷◌, Option, Some, None, refl, sym, ap, subst, arith}
use Rattle.site_run.proofs.Words.{Entry, Bytes, Node, Dispatcher, Server, Replica, Joiner, Input, Setting, Note, land, State, Leads, MayHold, Numbered, Rows, row_of, StateOf, rows_of, dispatcher_rows, joiner_rows, numbered, server_rows, with_number, Path, AnyState, AnyLeads, any_of, any_phase, state_phase, RowPath}

-- ---- a node that carries its number, and one that doesn't

-- the state without the number
abbrev pub bare : {K L : Type 0} → State (Numbered K) L → State K L
bare u = record { setting = u.setting; kept = u.kept.disk; live = u.live; opened = u.opened }

module _ {K L : Type 0} (rows : ℕ → Rows K L) (n : ℕ) where
  row_so : (g : Setting) (k : K) (live : Option L) (i : Input) → row_of (numbered rows) g (record { number = n; disk = k }) live i ≡ row_of (rows n) g k live i
  row_so g k None i = refl
  row_so g k (Some l) i = refl

  lands_so : (k : K) (o : Option Note) → land (numbered rows).lands o (record { number = n; disk = k }) ≡ record { number = n; disk = land (rows n).lands o k }
  lands_so k None = refl
  lands_so k (Some note) = refl

  module _ (t : State K L) where
    pub led_so : (e : Entry) (u : State (Numbered K) L) → Leads (numbered rows) (with_number n t) e u → (u ≡ with_number n (bare u)) × Leads (rows n) t e (bare u)
    led_so e u l = grind (arith, row_so, lands_so)

    pub may_hold_so : (k : Numbered K) → MayHold (numbered rows) (with_number n t) k → MayHold (rows n) t k.disk
    may_hold_so k may = grind (arith, row_so, lands_so)

-- ---- one entry of any kind of node

abbrev Goes : (n : Node) → StateOf n → Entry → AnyState → Type 0
Goes n t e u = (v : StateOf n) × (u ≡ any_of n v) × Leads (rows_of n) t e v

pub one : (n : Node) (t : StateOf n) (e : Entry) (u : AnyState) → AnyLeads (any_of n t) e u → Goes n t e u
one (Dispatcher s) t e (inl (inl u)) l = let so = led_so dispatcher_rows s t e u l in (bare u, ap (λ x. inl (inl x)) so.0, so.1)
one (Server s) t e (inl (inr u)) l = let so = led_so server_rows s t e u l in (bare u, ap (λ x. inl (inr x)) so.0, so.1)
one (Replica r) t e (inr (inl u)) l = (u, refl, l)
one (Joiner j) t e (inr (inr u)) l = let so = led_so joiner_rows j t e u l in (bare u, ap (λ x. inr (inr x)) so.0, so.1)
one _ t e _ l = absurd l

-- a state stands on the bus by what it knows and what is open, as a state of a node of any kind too
pub phase_is : (n : Node) (t : StateOf n) → any_phase (any_of n t) ≡ state_phase t
phase_is (Dispatcher s) t = refl
phase_is _ t = refl

-- ---- all entries of a node

pub walked : (n : Node) (s : StateOf n) (es : List Entry) (t : AnyState) → Path AnyLeads (any_of n s) es t → (u : StateOf n) × (t ≡ any_of n u) × RowPath (rows_of n) s es u
walked n s [] t p = (s, sym p, refl)
walked n s (e ∷ es) t p =
    let m = one n s e p.0 p.1 in
    let r = walked n m.0 es t (subst (λ (x : AnyState). Path AnyLeads x es t) m.1 p.2) in
    (r.0, r.1, (m.0, m.2, r.2))
