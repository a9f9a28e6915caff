use Rattle.std.proofs.Common.{map}
use Rattle.log_picture.specs.Picture.{ways_in}
use Rattle.log_picture.proofs.Listing.{own_is_better}
use Rattle.log_picture.proofs.busiest.better.Goals as goal

pub returns-then-is_new : goal.returns-then-is_new
returns-then-is_new c =
    own_is_better (map ways_in c.args.tracks.now) c.args.rows.now c.args.best c.args.record.now c.users_of-users.result c.users_of-users.ensures
    (rw c.users_in.ensures at c.if-users-users_in.true) (c.is_new.ensures.new c.if-is_new.true)
