use Rattle.std.proofs.lemmas.Option.{slice_get-get_or}
use Rattle.log_picture.proofs.Laying.{laid_more}
use Rattle.log_picture.proofs.lanes.lanes_of.Goals as goal

pub lives-preserved : goal.lives-preserved
lives-preserved c =
    rw c.in_ok-push.ensures.items
    (laid_more c.args.lives.now c.lives.of.items c.lives.lasts.items c.place.new.lasts.items c.lives.life-index c.in_ok-lane.lane _ c.lives.invariant
    (slice_get-get_or c.args.lives.now c.lives.life-index _ c.lives-test.true) c.in_ok-lane.ensures)
