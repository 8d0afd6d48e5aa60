-- Joins that have spellings, and the packets that they are.
use Rattle.std.proofs.Common.{ℕ, ◌+◌, ◌%◌, ◌^◌, ◌<◌, List, [], ◌∷◌, All, arith}
use Rattle.dispatch_core.proofs.Words.{zip, All-nil, All-head, All-tail, Each, Click, IsClick, Packet, Node, IsPacket, Config, dealt, waiting_joins, IsJoin, ArePackets, FreshLine}

abbrev IsSpelled : Node × Packet → Type 0
IsSpelled p = IsPacket p.1

pub dealt_spelled : (site : ℕ) (c : Config) (k : ℕ) (js : List (ℕ × Click)) → Each IsJoin js → ArePackets (dealt site c k js)
dealt_spelled site c k [] h = All-nil IsSpelled
dealt_spelled site c k (j ∷ js) h = grind (arith, dealt_spelled site c ((k + 1) % c.joiners) js h.1)

pub waiting_spelled : (xs : List FreshLine) → Each IsJoin (waiting_joins xs)
waiting_spelled [] = tt
waiting_spelled (x ∷ xs) = grind (arith, waiting_spelled xs)

pub zip_spelled : (ps : List ℕ) (cs : List Click) → All (λ n. n < 2 ^ 64) ps → All IsClick cs → Each IsJoin (zip ps cs)
zip_spelled (p ∷ ps) (c ∷ cs) h k =
    ((All-head (λ n. n < 2 ^ 64) p ps h, All-head IsClick c cs k), zip_spelled ps cs (All-tail (λ n. n < 2 ^ 64) p ps h) (All-tail IsClick c cs k))
zip_spelled _ _ h k = tt
