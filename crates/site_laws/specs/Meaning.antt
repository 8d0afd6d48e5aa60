-- What entries of the bus mean: those of the model that say the same of inputs, notes and packets.
use Rattle.std.specs.Prelude.{◌≡◌, ℕ, List, [], ◌∷◌, Option, Some, None, ⊤}
use Rattle.site_laws.specs.Terms.{AreSpelled, Begin, BusEntry, Cell, End, Entry, IsNoted, Node, Reads, Setting, State, Stop, node_of}
use Rattle.turn_defs.specs.declared.node.Input.{Input}
use Rattle.air_bus.specs.declared.entry.Input.{Input as Bytes}
use Rattle.air_bus.specs.declared.entry.Entry.TheVariants as bus

-- the number is this node's
abbrev pub IsNumberOf : Setting → ℕ → Node → Type 0
IsNumberOf g m n = node_of g m ≡ Some n

-- the entry of the bus is that of the model, its node by number, its input, note and packets by their bytes
abbrev pub Means : Setting → BusEntry → Entry → Type 0
Means g (bus.Begin m b) (Begin n i) = IsNumberOf g m n × Reads g b i
Means g (bus.Begin m b) (End n made ps kept) = ⊥
Means g (bus.Begin m b) (Stop n landed) = ⊥
Means g (bus.End m noted sent fits) (End n made ps kept) = IsNumberOf g m n × IsNoted made noted × AreSpelled ps sent × (kept ≡ fits)
Means g (bus.End m noted sent fits) (Begin n i) = ⊥
Means g (bus.End m noted sent fits) (Stop n landed) = ⊥
Means g (bus.Stop m noted) (Stop n landed) = IsNumberOf g m n × IsNoted landed noted
Means g (bus.Stop m noted) (Begin n i) = ⊥
Means g (bus.Stop m noted) (End n made ps kept) = ⊥

-- entry by entry
abbrev pub AllMean : Setting → List BusEntry → List Entry → Type 0
AllMean g [] [] = ⊤
AllMean g [] (x ∷ xs) = ⊥
AllMean g (e ∷ es) [] = ⊥
AllMean g (e ∷ es) (x ∷ xs) = Means g e x × AllMean g es xs

-- the same turn is open, or none
abbrev pub OpenedAs : Setting → Option Bytes → Option Input → Type 0
OpenedAs g None None = ⊤
OpenedAs g None (Some i) = ⊥
OpenedAs g (Some b) None = ⊥
OpenedAs g (Some b) (Some i) = Reads g b i

-- a node of the model stands where its own entries have led it
pub record StandsFor {K L : Type 0} (g : Setting) (c : Cell K L) (s : State K L) : Type 0 where
  pub setting : s.setting ≡ g
  pub kept : c.kept ≡ s.kept
  pub live : c.live ≡ s.live
  pub opened : OpenedAs g s.opened c.opened
