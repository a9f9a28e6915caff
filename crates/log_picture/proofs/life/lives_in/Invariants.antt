use Rattle.std.proofs.Common.{◌≡◌, ◌++◌, drop}
use Rattle.log_picture.specs.Lives.{lives_from}
use Rattle.log_picture.proofs.life.lives_in.Given as goal

abbrev pub invariant-events : goal.invariant-events
invariant-events l = lives_from l.from 0 l.events ≡ l.lives.items ++ lives_from l.from l.place (drop l.place l.events)
