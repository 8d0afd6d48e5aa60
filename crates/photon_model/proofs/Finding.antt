-- Lists that are searched, and packets as they were sent.
use Rattle.std.proofs.Common.{◌≡◌, inl, inr, ℕ, zero, suc, ◌+◌, ◌<◌, ◌≤◌, Bool, true, false, List, [], ◌∷◌, Some, None, ap, ◌∙◌, refl, arith, find}
use Rattle.photon_model.proofs.Words.{none_some, Mem, Setting, IsTo, Addressed, Packet, Node, To, Sent, first_shard, sends}

-- the first element that passes a test
pub find_some : {A : Type 0} (test : A → Bool) (xs : List A) (x : A) → find test xs ≡ Some x → Mem x xs × (test x ≡ true)
find_some test [] x e = none_some x e
find_some test (y ∷ ys) x e = grind (arith, find_some test ys x)

pub find_none : {A : Type 0} (test : A → Bool) (xs : List A) (x : A) → find test xs ≡ None → Mem x xs → test x ≡ true → ⊥
find_none test [] x e m t = m
find_none test (y ∷ ys) x e m t = grind (arith, find_none test ys x)

-- the first number that passes a test
pub first_is : (test : ℕ → Bool) (from n k : ℕ) → first_shard test from n ≡ Some k → (k < from + n) × (test k ≡ true)
first_is test from zero k e = none_some k e
first_is test from (suc n) k e = grind (arith, first_is test (suc from) n k)

pub first_none : (test : ℕ → Bool) (from n : ℕ) → first_shard test from n ≡ None → (k : ℕ) → from ≤ k → k < from + n → test k ≡ false
first_none test from zero e k a b = absurd (omega (arith, a, b))
first_none test from (suc n) e k a b = grind (arith, first_none test (suc from) n)

-- a packet of a row is sent to a node that its address means, and no other is sent
pub addressed : (g : Setting) (from : Node) (as_ : List (To × Packet)) (ps : List (Node × Packet)) → Addressed g as_ ps → (a : To × Packet) → Mem a as_ → (to : Node) × IsTo g a.0 to × Mem (record { from = from; to = to; packet = a.1 }) (sends from ps)
addressed g from [] ps h a m = absurd m
addressed g from (b ∷ as_) [] h a m = absurd h
addressed g from (b ∷ as_) (p ∷ ps) h a k = grind (arith, addressed g from as_ ps h.1 a)

pub sent_addressed : (g : Setting) (from : Node) (as_ : List (To × Packet)) (ps : List (Node × Packet)) → Addressed g as_ ps → (x : Sent) → Mem x (sends from ps) → (a : To × Packet) × Mem a as_ × (a.1 ≡ x.packet)
sent_addressed g from [] (p ∷ ps) h x m = absurd h
sent_addressed g from (b ∷ as_) (p ∷ ps) h x (inl e) = (b, inl refl, h.0.1 ∙ ap (λ (z : Sent). z.packet) e)
sent_addressed g from (b ∷ as_) (p ∷ ps) h x (inr m) = let i = sent_addressed g from as_ ps h.1 x m in (i.0, inr i.1, i.2)
sent_addressed g from _ [] h x m = absurd m
