-- A history as the log that is kept and printed: the oldest event at place 0.
use Rattle.std.specs.Prelude.{◌≡◌, ℕ, List, [], ◌∷◌, ◌++◌, length}
use Rattle.tc_log.specs.declared.event.Event.{Event}

-- the event stands at this place, behind so many earlier ones
pub record StandsAt (h : List Event) (place : ℕ) (e : Event) : Type 0 where
  pub later : List Event
  pub earlier : List Event
  pub is : h ≡ later ++ e ∷ earlier
  pub count : length earlier ≡ place

-- the history begins with another: that one, and then later events
pub record Begins (first h : List Event) : Type 0 where
  pub later : List Event
  pub is : h ≡ later ++ first

-- the log, oldest event first, begins with another
pub record StartsWith (start log : List Event) : Type 0 where
  pub rest : List Event
  pub is : log ≡ start ++ rest

-- each event has the property, behind the events before it
abbrev pub Each : (List Event → Event → Type 0) → List Event → Type 0
Each P [] = Unit {0}
Each P (e ∷ h) = P h e × Each P h
