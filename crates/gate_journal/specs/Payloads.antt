-- What is left of a walk over payloads.
use Rattle.std.specs.Prelude.{ℕ, List}
use Rattle.gate_journal.specs.Gate.{payloads_in}
use Rattle.gate_journal.specs.declared.payloads.Walk.{Walk}

abbrev pub left : Walk → List (List ℕ)
left walk = payloads_in walk.rest.now
