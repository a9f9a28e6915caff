use Rattle.std.proofs.Common.{◌≡◌, drop}
use Rattle.log_picture.specs.Ways.{uses}
use Rattle.log_picture.proofs.way.uses.Given as goal

abbrev pub invariant-ways : goal.invariant-ways
invariant-ways l = uses l.«record» l.ways ≡ uses l.«record» (drop l.way-index l.ways)
