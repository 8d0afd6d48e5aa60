-- A join in flight whose parts have spellings.
use Rattle.joiner_core.specs.Terms.{EventId, IsId, IsQuery, IsNumber, IsToken}
use Rattle.log_records.specs.Text.{IsText}
use Rattle.joiner_core.specs.declared.flights.Waiting.{Waiting}

pub record IsHeld (e : EventId × Waiting) : Type 0 where
  pub id : IsId e.0
  pub position : IsNumber e.1.position
  pub asked : IsId e.1.asked
  pub text : IsText e.1.text
  pub query : IsQuery e.1.query
  pub token : IsToken e.1.token
