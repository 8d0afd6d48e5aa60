-- Of worlds and their cells.
use Rattle.std.proofs.Common.{◌≡◌, ◌⊎◌, ⊎_elim, sym, subst, ℕ, zero, suc, ◌<◌, ◌==◌, List, [], ◌∷◌, ◌++◌, Option, Some, None, refl, ap, arith}
use Rattle.std.proofs.lemmas.Bool.{cond-true, eq-eqb}
use Rattle.photon_model.proofs.Words.{Out, Own, row, Note, land, at_node, Setting, Node, Input, World, Entry, after, world_after, IsRun, UpWith, set_at}

-- the input of a node's open turn
abbrev pub opened_at : World → Node → Option Input
opened_at w n = (at_node w n).opened

pub run_append : (g : Setting) (xs ys : List Entry) (w : World) → IsRun g w xs → IsRun g (world_after g w xs) ys → IsRun g w (xs ++ ys)
run_append g [] ys w a b = b
run_append g (x ∷ xs) ys w a b = (a.0, run_append g xs ys (after g w x) a.1 b)

pub after_append : (g : Setting) (xs ys : List Entry) (w : World) → world_after g w (xs ++ ys) ≡ world_after g (world_after g w xs) ys
after_append g [] ys w = refl
after_append g (x ∷ xs) ys w = after_append g xs ys (after g w x)

pub up_is : {L : Type 0} (P : L → Type 0) (o : Option L) → UpWith P o → (l : L) × (o ≡ Some l) × P l
up_is P o u = grind arith

-- a part of what a family is set to
pub set_own : {A B : Type 0} (part : A → B) (f : ℕ → A) (n : ℕ) (v : A) → part (set_at f n v n) ≡ part v
set_own part f n v = ap part (cond-true (n == n) v (f n) (eq-eqb n n refl))

-- the two sites
pub of_two : (P : ℕ → Type 0) → P 0 → P 1 → (s : ℕ) → s < 2 → P s
of_two P a b zero lt = a
of_two P a b (suc zero) lt = b
of_two P a b (suc (suc s)) lt = absurd (omega (arith, lt))

-- a stop leaves what its note makes of the records, or the records
pub landed_either : {K : Type 0} (P : K → Type 0) (f : Note → K → K) (k : K) (note landed : Option Note) → (landed ≡ None) ⊎ (landed ≡ note) → P k → P (land f note k) → P (land f landed k)
landed_either P f k note landed how here there = ⊎_elim (λ e. subst (λ q. P (land f q k)) (sym e) here) (λ e. subst (λ q. P (land f q k)) (sym e) there) how

-- the row of a node that is down, or up with its open turn's input
pub row_by : {K L : Type 0} (start : K → Out L) (turn : K → L → Input → Out L) (k : K) (l : Option L) (o : Option Input) (P : Out L → Type 0) → P (start k) → ((x : L) → l ≡ Some x → (i : Input) → (o ≡ Some i) ⊎ (i ≡ Own) → P (turn k x i)) → P (row start turn k l o)
row_by start turn k l o P down up = grind arith
