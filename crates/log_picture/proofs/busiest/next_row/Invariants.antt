use Rattle.std.proofs.Common.{map}
use Rattle.log_picture.specs.Picture.{ways_in}
use Rattle.log_picture.specs.Joining.Choosing.{IsBest}
use Rattle.log_picture.proofs.busiest.next_row.Given as goal

abbrev pub invariant-records : goal.invariant-records
invariant-records l = IsBest (map ways_in l.tracks) l.records l.rows l.record-index l.best
