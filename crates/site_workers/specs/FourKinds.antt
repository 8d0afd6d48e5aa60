-- A node of one of four kinds: what is said of the one, or of another. Its states are a sum of two sums.
use Rattle.std.proofs.Common.{◌≡◌, ◌≢◌, ◌⊎◌, inl, inr, ℕ, Bool, true, false, ◌&&◌, List, length, Option, Some, refl}
use Rattle.std.specs.Prelude.{IsTrue}
use Rattle.air_bus.specs.declared.entry.Entry.{Entry}
use Rattle.air_bus.specs.declared.entry.Entry.TheVariants.{Begin}
use Rattle.air_bus.specs.declared.entry.Input.{Input}
use Rattle.air_bus.specs.declared.entry.Phase.{Phase}
use Rattle.air_bus.specs.declared.entry.Phase.TheVariants.{Busy}
use Rattle.air_bus.specs.Copies.{Copy}
use Rattle.air_bus.specs.History.{next_input, phase_after}
use Rattle.site_workers.specs.declared.one_of.OneOf.{OneOf}
use Rattle.site_workers.specs.declared.one_of.OneOf.TheVariants as node

-- ---- of a state

abbrev pub of : {S T C : Type 0} → (S → C) → (T → C) → S ⊎ T → C
of f g (inl s) = f s
of f g (inr t) = g t

abbrev pub says : {S T : Type 0} → (S → Bool → Type 0) → (T → Bool → Type 0) → S ⊎ T → Bool → Type 0
says f g (inl s) b = f s b
says f g (inr t) b = g t b

-- of two states, or of a state and bytes, of one kind
abbrev pub both : {S T U V : Type 0} → (S → U → Type 0) → (T → V → Type 0) → S ⊎ T → U ⊎ V → Type 0
both f g (inl s) (inl u) = f s u
both f g (inr t) (inr v) = g t v
both f g _ _ = ⊥

abbrev pub leads : {S T : Type 0} → (S → Entry → S → Type 0) → (T → Entry → T → Type 0) → S ⊎ T → Entry → S ⊎ T → Type 0
leads f g s e t = both (λ a b. f a e b) (λ a b. g a e b) s t

-- it is of the one kind, or of the other
abbrev pub in_first : {S T : Type 0} → (S → Type 0) → S ⊎ T → Type 0
in_first P (inl s) = P s
in_first P (inr t) = ⊥

abbrev pub in_second : {S T : Type 0} → (T → Type 0) → S ⊎ T → Type 0
in_second P (inl s) = ⊥
in_second P (inr t) = P t

-- ---- of a node

abbrev pub by : {A B C D X : Type 0} → (A → X) → (B → X) → (C → X) → (D → X) → OneOf A B C D → X
by f g h k (node.First a) = f a
by f g h k (node.Second b) = g b
by f g h k (node.Third c) = h c
by f g h k (node.Fourth d) = k d

-- as many of each as it has
pub counted : {A B C D X : Type 0} (f : A → List X) (g : B → List X) (h : C → List X) (k : D → List X) (i : A → ℕ) (j : B → ℕ) (l : C → ℕ) (m : D → ℕ)
    → ((a : A) → length (f a) ≡ i a) → ((b : B) → length (g b) ≡ j b) → ((c : C) → length (h c) ≡ l c) → ((d : D) → length (k d) ≡ m d) → (v : OneOf A B C D) → length (by f g h k v) ≡ by i j l m v
counted f g h k i j l m first second third fourth (node.First a) = first a
counted f g h k i j l m first second third fourth (node.Second b) = second b
counted f g h k i j l m first second third fourth (node.Third c) = third c
counted f g h k i j l m first second third fourth (node.Fourth d) = fourth d

-- what is said of a node of each kind
abbrev pub has : {A B C D X : Type 0} → (A → X → Type 0) → (B → X → Type 0) → (C → X → Type 0) → (D → X → Type 0) → OneOf A B C D → X → Type 0
has f g h k (node.First a) = f a
has f g h k (node.Second b) = g b
has f g h k (node.Third c) = h c
has f g h k (node.Fourth d) = k d

-- what is said of a node and one thing more, which is of its kind
abbrev pub at : {A B C D S T U V : Type 0} → (A → S → Type 0) → (B → T → Type 0) → (C → U → Type 0) → (D → V → Type 0) → OneOf A B C D → (S ⊎ T) ⊎ (U ⊎ V) → Type 0
at f g h k (node.First a) = in_first (in_first (f a))
at f g h k (node.Second b) = in_first (in_second (g b))
at f g h k (node.Third c) = in_second (in_first (h c))
at f g h k (node.Fourth d) = in_second (in_second (k d))

abbrev pub grown : {A B C D : Type 0} → (A → A → Type 0) → (B → B → Type 0) → (C → C → Type 0) → (D → D → Type 0) → OneOf A B C D → OneOf A B C D → Type 0
grown f g h k (node.First a) (node.First b) = f a b
grown f g h k (node.Second a) (node.Second b) = g a b
grown f g h k (node.Third a) (node.Third b) = h a b
grown f g h k (node.Fourth a) (node.Fourth b) = k a b
grown f g h k _ _ = ⊥

abbrev pub since : {A B C D S T U V : Type 0} → (A → A → S → Type 0) → (B → B → T → Type 0) → (C → C → U → Type 0) → (D → D → V → Type 0) → OneOf A B C D → OneOf A B C D → (S ⊎ T) ⊎ (U ⊎ V) → Type 0
since f g h k (node.First a) (node.First b) = in_first (in_first (f a b))
since f g h k (node.Second a) (node.Second b) = in_first (in_second (g a b))
since f g h k (node.Third a) (node.Third b) = in_second (in_first (h a b))
since f g h k (node.Fourth a) (node.Fourth b) = in_second (in_second (k a b))
since f g h k _ _ = λ s. ⊥

-- ---- the laws of all kinds

pub both_true : (a b : Bool) → IsTrue (a && b) → IsTrue a × IsTrue b
both_true true b h = (refl, h)
both_true false b h = absurd (cc h)

module _ {S T : Type 0} (f : S → Entry → S → Type 0) (g : T → Entry → T → Type 0) (p : S → Phase) (q : T → Phase) where
  abbrev pub BeginsOf : {R : Type 0} → (R → Phase) → (R → Entry → R → Type 0) → Type 0
  BeginsOf {R} phase leads = (s : R) (n : ℕ) (next : Option Copy) (tick wants : Bool) (i : Input) → phase s ≢ Busy → next_input (phase s) next tick wants ≡ Some i → (t : R) × leads s (Begin n i) t

  abbrev pub PhasesOf : {R : Type 0} → (R → Phase) → (R → Entry → R → Type 0) → Type 0
  PhasesOf {R} phase leads = (s t : R) (e : Entry) → leads s e t → phase t ≡ phase_after e

  pub begins : BeginsOf p f → BeginsOf q g → BeginsOf (of p q) (leads f g)
  begins a b (inl s) n next tick wants i ne is = let t = a s n next tick wants i ne is in (inl t.0, t.1)
  begins a b (inr s) n next tick wants i ne is = let t = b s n next tick wants i ne is in (inr t.0, t.1)

  pub phases : PhasesOf p f → PhasesOf q g → PhasesOf (of p q) (leads f g)
  phases a b (inl s) (inl t) e is = a s t e is
  phases a b (inr s) (inr t) e is = b s t e is
  phases a b _ _ e is = absurd is

-- what holds of each state of the one kind, or of the other
pub says_first : {S T : Type 0} (P : S → Type 0) (X : S ⊎ T → Type 0) → ((s : S) → P s → X (inl s)) → (x : S ⊎ T) → in_first P x → X x
says_first P X h (inl s) p = h s p
says_first P X h (inr t) p = absurd p

pub says_second : {S T : Type 0} (P : T → Type 0) (X : S ⊎ T → Type 0) → ((t : T) → P t → X (inr t)) → (x : S ⊎ T) → in_second P x → X x
says_second P X h (inl s) p = absurd p
says_second P X h (inr t) p = h t p

-- a state and bytes of the one kind
module _ {S T U V : Type 0} (keeps : S → U → Type 0) (others : T → V → Type 0) where
  kept_first : (P : S → Type 0) (Q : U → Type 0) → ((s : S) → P s → (u : U) → Q u → keeps s u) → (x : S ⊎ T) → in_first P x → (y : U ⊎ V) → in_first Q y → both keeps others x y
  kept_first P Q h x p y = says_first P (λ x. in_first Q y → both keeps others x y) (λ s p. says_first Q (both keeps others (inl s)) (h s p) y) x p

  kept_second : (P : T → Type 0) (Q : V → Type 0) → ((t : T) → P t → (v : V) → Q v → others t v) → (x : S ⊎ T) → in_second P x → (y : U ⊎ V) → in_second Q y → both keeps others x y
  kept_second P Q h x p y = says_second P (λ x. in_second Q y → both keeps others x y) (λ t p. says_second Q (both keeps others (inr t)) (h t p) y) x p

abbrev pub ImagesOf : {N R E : Type 0} → Bool → (N → R → Type 0) → (N → E → Type 0) → (R → E → Type 0) → Type 0
ImagesOf {N} {R} {E} tells stands image keeps = (n : N) (s : R) → IsTrue tells → stands n s → (c : E) → image n c → keeps s c

module _ {A B C D S T U V W X Y Z : Type 0} (a b c d : Bool) (f : A → S → Type 0) (g : B → T → Type 0) (h : C → U → Type 0) (k : D → V → Type 0) (i : A → W → Type 0) (j : B → X → Type 0) (l : C → Y → Type 0) (m : D → Z → Type 0)
    (n : S → W → Type 0) (o : T → X → Type 0) (p : U → Y → Type 0) (q : V → Z → Type 0) where
  pub images : ImagesOf a f i n → ImagesOf b g j o → ImagesOf c h l p → ImagesOf d k m q → ImagesOf ((a && b) && (c && d)) (at f g h k) (at i j l m) (both (both n o) (both p q))
  images first second third fourth (node.First v) s tells stands e here = kept_first (both n o) (both p q) _ _ (kept_first n o _ _ (λ s at. first v s (both_true a b (both_true (a && b) (c && d) tells).0).0 at)) s stands e here
  images first second third fourth (node.Second v) s tells stands e here = kept_first (both n o) (both p q) _ _ (kept_second n o _ _ (λ s at. second v s (both_true a b (both_true (a && b) (c && d) tells).0).1 at)) s stands e here
  images first second third fourth (node.Third v) s tells stands e here = kept_second (both n o) (both p q) _ _ (kept_first p q _ _ (λ s at. third v s (both_true c d (both_true (a && b) (c && d) tells).1).0 at)) s stands e here
  images first second third fourth (node.Fourth v) s tells stands e here = kept_second (both n o) (both p q) _ _ (kept_second p q _ _ (λ s at. fourth v s (both_true c d (both_true (a && b) (c && d) tells).1).1 at)) s stands e here
