-- A world that goes on.
use Rattle.tc_world.specs.Whole.{Whole}
use Rattle.tc_world.specs.Lives.{Becomes}

-- whatever has become the first world becomes the second one
abbrev pub LivesOn : Whole → Whole → Type 0
LivesOn w v = (start : Whole) → Becomes start w → Becomes start v
