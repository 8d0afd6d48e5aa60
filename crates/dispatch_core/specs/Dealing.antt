-- Joins go to the joiners of a site in turn.
use Rattle.std.specs.Prelude.{◌≡◌, ℕ, ◌+◌, ◌*◌, ◌%◌, List, [], ◌∷◌}
use Rattle.dispatch_core.specs.Terms.{Click, Config, Packet, Join, Node, Joiner}

-- number k of the joiners of a site
abbrev pub joiner_at : (site : ℕ) → Config → (k : ℕ) → Node
joiner_at site c k = Joiner ((4 + c.replicas) + site * c.joiners + k)

-- a Join of each click at its position, the first to joiner number k of the site's, each further one to the joiner behind
abbrev pub dealt : (site : ℕ) → Config → (k : ℕ) → List (ℕ × Click) → List (Node × Packet)
dealt site c k [] = []
dealt site c k (j ∷ js) = (joiner_at site c k, Join j.0 j.1) ∷ dealt site c ((k + 1) % c.joiners) js

-- the number of the joiner behind them
abbrev pub next_after : (n k : ℕ) → List (ℕ × Click) → ℕ
next_after n k [] = k
next_after n k (j ∷ js) = next_after n ((k + 1) % n) js

-- The packets go to the joiners of the site in turn, the first to number k, and the one behind the last is number e. So
-- with k 0 at the start, a Join's joiner is how many were sent before it since then, modulo how many there are.
abbrev pub GoInTurn : (site : ℕ) → Config → (k : ℕ) → List (Node × Packet) → (e : ℕ) → Type 0
GoInTurn site c k [] e = e ≡ k
GoInTurn site c k (p ∷ ps) e = (p.0 ≡ joiner_at site c k) × GoInTurn site c ((k + 1) % c.joiners) ps e
