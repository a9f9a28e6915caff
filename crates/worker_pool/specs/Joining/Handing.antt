-- What the pool's state hands over to be kept: how batches of it are counted, and where they stand in the log.
use Rattle.std.specs.Prelude.{◌≡◌, ◌==◌, ◌+◌, ◌≤◌, ℕ, true, List, [], ◌∷◌, ◌++◌, length, reverse, Option, MatchBool}
use Rattle.logbook.specs.Pages.{Cell, Step, View, Book, Named}
use Rattle.tc_log.specs.declared.event.Event.{Event}
use Rattle.history.specs.Places.{Begins}
use Rattle.journals.specs.declared.journal.NotKept.{NotKept}

-- the events of these batches, in order
abbrev pub events_of : List (List Event) → List Event
events_of [] = []
events_of (b ∷ bs) = b ++ events_of bs

-- the first word is the number of batches. A book has two words, of which this one leaves the second at 0
pub record IsCounted (cells : List Cell) (log : List (List Event)) : Type 0 where
  pub words : cells ≡ (length log, true) ∷ (0, true) ∷ []

abbrev pub head_of : Book → Named
head_of b = record { tracked = true; key = 0; book = b }

-- the batch was added to all that had been seen; or there are more, and so many were found
abbrev pub Adds : Step (List Event) → View (List Event) ℕ → ℕ → View (List Event) ℕ → Type 0
Adds s v found w = MatchBool (found == s.old) (w.0 ≡ v.0 ++ s.ask ∷ []) (length w.0 ≡ found)

-- the log begins with the first one, and then has all that was handed over; these are so many events together
pub record IsHanded (first : List Event) (batches : List (List Event)) (count : ℕ) (h : List Event) : Type 0 where
  pub begins : Begins (reverse (events_of batches) ++ first) h
  pub count_is : count ≡ length first + length (events_of batches)

-- what contracts see of who keeps events: the journal, what was handed over when it kept something last, what was copied last, and why
-- something wasn't kept, if anything wasn't
pub record Shelf (K : Type 0) : Type 0 where
  pub journal : K
  pub handed : List (List Event)
  pub batch : List Event
  pub fault : Option NotKept

-- so many events are those of the first log and of these batches, or fewer, and behind whatever was kept before these batches are kept
pub record IsKeptIn (kept before : List Event → Type 0) (first : List Event) (logged : ℕ) (batches : List (List Event)) : Type 0 where
  pub enough : logged ≤ length first + length (events_of batches)
  pub has : (events : List Event) → before events → kept (events ++ events_of batches)

-- behind whatever it had kept before, the journal has kept the events of these batches
abbrev pub HasAll : {K : Type 0} → (K → List Event → Type 0) → (List Event → Type 0) → K → List (List Event) → Type 0
HasAll has before journal batches = (events : List Event) → before events → has journal (events ++ events_of batches)
