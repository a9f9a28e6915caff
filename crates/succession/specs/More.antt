-- A world, and the same one with further wires on their way.
use Rattle.std.specs.Prelude.{◌≡◌, List, ◌++◌}
use Rattle.access_slots.specs.declared.op.Wire.{Wire}
use Rattle.tc_world.specs.Whole.{Whole}
use Rattle.tc_world.specs.Steps.{Steps}
use Rattle.tc_world.specs.Lives.{AreAmong}
use Rattle.tc_world.specs.declared.step.Step.{Step}
use Rattle.tc_world.specs.declared.step.Outcome.{Outcome}

abbrev pub with_more : List Wire → Whole → Whole
with_more xs w = record w { copies = w.copies ++ xs }

-- the step is possible there too, and leaves the same, with the further wires on their way
pub record StepsWith (xs : List Wire) (w v : Whole) (x : Step) : Type 0 where
  pub o : Outcome
  pub u : Whole
  pub goes : Steps (with_more xs w) x o u
  pub core : u.core ≡ v.core
  pub dcs : u.dcs ≡ v.dcs
  pub replies : u.replies ≡ v.replies
  pub news : u.news ≡ v.news
  pub among : AreAmong (v.copies ++ xs) u.copies
