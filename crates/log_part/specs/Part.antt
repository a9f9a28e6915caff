-- Which of a log's events are wanted.
use Rattle.std.specs.Prelude.{ℕ, ◌-◌, min}
use Rattle.log_part.specs.declared.part.Part.{Part}
use Rattle.log_part.specs.declared.part.Part.TheVariants.{Whole, From, Last}

-- the place of the first of them in a log of so many events
abbrev pub first_of : Part → ℕ → ℕ
first_of Whole count = 0
first_of (From place) count = min count place
first_of (Last wanted) count = count - wanted

-- the place from which on they are wanted of a log that has so many events, and goes on
abbrev pub begin_of : Part → ℕ → ℕ
begin_of Whole count = 0
begin_of (From place) count = place
begin_of (Last wanted) count = count - wanted

-- the part of those that are shown where no more than so many are: the first ones from a place on, else the last
abbrev pub at_most : Part → ℕ → Part
at_most Whole most = Last most
at_most (From place) most = From place
at_most (Last wanted) most = Last (min wanted most)
