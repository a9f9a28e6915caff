-- A picture of a log's events, from a place on.
use Rattle.std.specs.Prelude.{◌≡◌, ℕ, ◌+◌, List, map, drop}
use Rattle.tc_log.specs.declared.event.Event.{Event}
use Rattle.log_picture.specs.declared.life.Life.{Life}
use Rattle.log_picture.specs.declared.way.Way.{Way}
use Rattle.log_picture.specs.declared.picture.Track.{Track}
use Rattle.log_picture.specs.declared.picture.Picture.{Picture}
use Rattle.log_picture.specs.Lives.{lives_from}
use Rattle.log_picture.specs.Ways.{ways_from}
use Rattle.log_picture.specs.Lanes.{AreApart}
use Rattle.log_picture.specs.Busiest.{AreBusiest}

-- a transaction's numbers, but for those that are answered before the place `from`
abbrev pub ways_of : ℕ → List Event → Life → List Way
ways_of from events life = ways_from life.txn from (life.begin + 1) (drop (life.begin + 1) events)

abbrev pub ways_in : Track → List Way
ways_in track = track.ways.items

-- the transactions that are open at this place or behind it, in lanes, each with its numbers that are; and the records that most of them
-- use, up to so many
pub record IsPicture (events : List Event) (from most : ℕ) (p : Picture) : Type 0 where
  pub lives : map (λ t. t.life) p.tracks.items ≡ lives_from from 0 events
  pub ways : map ways_in p.tracks.items ≡ map (ways_of from events) (lives_from from 0 events)
  pub lanes : AreApart (map (λ t. t.life) p.tracks.items) (map (λ t. t.lane) p.tracks.items) p.lanes
  pub rows : AreBusiest (map ways_in p.tracks.items) p.rows.items most
