-- A log that begins anew: behind one in which all transactions ended.
use Rattle.std.specs.Prelude.{ℕ, List, [], ◌∷◌}
use Rattle.tc_log.specs.declared.event.Event.{Event}
use Rattle.tc_log.specs.declared.event.Event.TheVariants.{Checkpoint}
use Rattle.history.specs.Calls.{admitted}
use Rattle.history.specs.Flight.{given}

-- how many numbers were given out and answered before the oldest event
abbrev pub begun : List Event → ℕ
begun [] = 0
begun (Checkpoint before numbers ∷ h) = numbers
begun (_ ∷ h) = begun h

-- the log that begins behind this one; where nothing happened there is nothing to begin behind
abbrev pub anew : List Event → List Event
anew [] = []
anew (e ∷ h) = Checkpoint (admitted (e ∷ h)) (given (e ∷ h)) ∷ []
