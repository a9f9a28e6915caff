use Rattle.std.proofs.Common.{◌≡◌, map, take}
use Rattle.log_picture.specs.Busiest.{targets_of}
use Rattle.log_picture.specs.Picture.{ways_in}
use Rattle.log_picture.proofs.busiest.targets_of.Given as goal

abbrev pub invariant-tracks : goal.invariant-tracks
invariant-tracks l = l.records.items ≡ targets_of (map ways_in (take l.track-index l.tracks))
