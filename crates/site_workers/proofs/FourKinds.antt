-- What a node of one of four kinds does is what the node of its kind does.
use Rattle.std.proofs.Common.{inl, inr, ℕ, ◌≤◌, length, List, Option}
use Rattle.site_workers.proofs.Words.{Begin, End, Entry, Err, IfOk, NodeFault, Ok, Result, Stop}
use Rattle.air_bus.specs.declared.entry.Input.{Input}
use Rattle.site_node.specs.declared.kind.Done.{Done}
use Rattle.site_workers.specs.FourKinds as one

-- a node that stood where P says stands where Q says
abbrev DoneBy : {R : Type 0} → (P Q : R → Type 0) → (R → Entry → R → Type 0) → ℕ → Input → Result Done NodeFault → Type 0
DoneBy {R} P Q leads n i r = (s t : R) → P s → leads s (Begin n i) t → IfOk r (λ d. (kept : ℕ) → kept ≤ length d.packets → (u : R) × leads t (End n d.note d.packets kept) u × Q u)

abbrev StoppedBy : {R : Type 0} → (P Q : R → Type 0) → (R → Entry → R → Type 0) → ℕ → Result (Option (List ℕ)) NodeFault → Type 0
StoppedBy {R} P Q leads n r = (s : R) → P s → IfOk r (λ l. (t : R) × leads s (Stop n l) t × Q t)

module _ {S T : Type 0} (f : S → Entry → S → Type 0) (g : T → Entry → T → Type 0) (n : ℕ) where
  pub done_first : (P Q : S → Type 0) (i : Input) (r : Result Done NodeFault) → DoneBy P Q f n i r → DoneBy (one.in_first P) (one.in_first Q) (one.leads f g) n i r
  done_first P Q i (Ok d) h (inl s) (inl t) at led = λ kept le. let u = h s t at led kept le in (inl u.0, u.1, u.2)
  done_first P Q i (Ok d) h (inl s) (inr t) at led = absurd led
  done_first P Q i (Ok d) h (inr s) t at led = absurd at
  done_first P Q i (Err e) h s t at led = tt

  pub done_second : (P Q : T → Type 0) (i : Input) (r : Result Done NodeFault) → DoneBy P Q g n i r → DoneBy (one.in_second P) (one.in_second Q) (one.leads f g) n i r
  done_second P Q i (Ok d) h (inr s) (inr t) at led = λ kept le. let u = h s t at led kept le in (inr u.0, u.1, u.2)
  done_second P Q i (Ok d) h (inr s) (inl t) at led = absurd led
  done_second P Q i (Ok d) h (inl s) t at led = absurd at
  done_second P Q i (Err e) h s t at led = tt

  pub stopped_first : (P Q : S → Type 0) (r : Result (Option (List ℕ)) NodeFault) → StoppedBy P Q f n r → StoppedBy (one.in_first P) (one.in_first Q) (one.leads f g) n r
  stopped_first P Q (Ok l) h (inl s) at = let t = h s at in (inl t.0, t.1, t.2)
  stopped_first P Q (Ok l) h (inr s) at = absurd at
  stopped_first P Q (Err e) h s at = tt

  pub stopped_second : (P Q : T → Type 0) (r : Result (Option (List ℕ)) NodeFault) → StoppedBy P Q g n r → StoppedBy (one.in_second P) (one.in_second Q) (one.leads f g) n r
  stopped_second P Q (Ok l) h (inr s) at = let t = h s at in (inr t.0, t.1, t.2)
  stopped_second P Q (Ok l) h (inl s) at = absurd at
  stopped_second P Q (Err e) h s at = tt
