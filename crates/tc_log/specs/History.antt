-- A log as a history.
use Rattle.std.specs.Prelude.{ℕ, List}
use Rattle.tc_log.specs.declared.event.Event.{Event}

-- the events, newest first, and how many more fit with no allocation
pub record History : Type 0 where
  pub events : List Event
  pub room : ℕ
