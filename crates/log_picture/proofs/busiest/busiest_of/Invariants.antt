use Rattle.std.proofs.Common.{◌-◌, map, vec_len}
use Rattle.log_picture.specs.Picture.{ways_in}
use Rattle.log_picture.specs.Joining.Choosing.{AreMost}
use Rattle.log_picture.proofs.busiest.busiest_of.Given as goal

abbrev pub decreases-rows : goal.decreases-rows
decreases-rows l = 16 - vec_len l.rows

abbrev pub invariant-rows : goal.invariant-rows
invariant-rows l = AreMost (map ways_in l.tracks) l.rows.items
