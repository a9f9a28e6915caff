use Rattle.log_picture.specs.Joining.Placing.{AreLaid}
use Rattle.log_picture.proofs.lanes.lanes_of.Given as goal

abbrev pub invariant-lives : goal.invariant-lives
invariant-lives l = AreLaid l.lives l.of.items l.lasts.items l.life-index
