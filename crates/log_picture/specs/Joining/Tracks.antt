-- Transactions in their lanes, each with its numbers.
use Rattle.std.specs.Prelude.{◌≡◌, ℕ, List, map}
use Rattle.tc_log.specs.declared.event.Event.{Event}
use Rattle.log_picture.specs.declared.life.Life.{Life}
use Rattle.log_picture.specs.declared.picture.Track.{Track}
use Rattle.log_picture.specs.Picture.{ways_in, ways_of}

pub record AreTracks (from : ℕ) (events : List Event) (lives : List Life) (lanes : List ℕ) (tracks : List Track) : Type 0 where
  pub lives_are : map (λ t. t.life) tracks ≡ lives
  pub lanes_are : map (λ t. t.lane) tracks ≡ lanes
  pub ways_are : map ways_in tracks ≡ map (ways_of from events) lives
