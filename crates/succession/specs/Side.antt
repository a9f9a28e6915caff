-- A transaction component beside former ones that still carry wires: at any time from when they were superseded, among its own steps.
use Rattle.std.specs.Prelude.{◌≡◌, ◌≢◌, ℕ, false, List, [], ◌∷◌, ◌++◌}
use Rattle.access_slots.specs.declared.op.Wire.{Wire}
use Rattle.access_slots.specs.declared.op.Reply.{Reply}
use Rattle.access_slots.specs.declared.op.News.{News}
use Rattle.transactions.specs.Legal.{Legal}
use Rattle.transactions.specs.Reached.{AllGood}
use Rattle.tc_world.specs.Whole.{Whole}
use Rattle.tc_world.specs.Steps.{Steps, with_copy}
use Rattle.tc_world.specs.OneAtATime.{is_forge}
use Rattle.tc_world.specs.Recovery.{IsWritten, come_back}
use Rattle.tc_world.specs.Lives.{AreAmong, left_with}
use Rattle.tc_world.specs.Ahead.{Written}
use Rattle.tc_world.specs.declared.step.Step.{Step}
use Rattle.tc_world.specs.declared.step.Step.TheVariants as step
use Rattle.tc_world.specs.declared.step.Outcome.{Outcome}
use Rattle.succession.specs.More.{with_more}
use Rattle.succession.specs.Reigns.{GoesOn}
use Rattle.succession.specs.Redoing.{RedoesOn}

-- what happens: the one of now takes a step, or a component does; messages are lost; former ones carry these wires now; a former one's redo goes
-- on; or another takes over from what was written, and this is what the former one may do from then on
pub data Happening : Type 0 where
  Does : Step → Happening
  Loses : List Wire → List Reply → List (ℕ × News) → Happening
  Arrives : List Wire → Happening
  Redoes : Wire → Happening
  TakesOver : Written → List (Step × List Wire) → Happening

-- one after the other; late: what former ones may still carry, and what was written tells of
abbrev pub Happens : List Happening → List Wire → Whole → List Wire → Whole → Type 0
Happens [] late w late' v = (late' ≡ late) × (v ≡ w)
Happens (Does x ∷ more) late w late' v =
    (o : Outcome) × (mid : Whole) × Steps w x o mid × (is_forge x ≡ false) × ((events : ℕ) → x ≢ step.Crash events)
    × Legal mid.core.procs mid.core.events × AllGood mid.core.procs × Happens more late mid late' v
Happens (Loses xs rs ns ∷ more) late w late' v =
    AreAmong xs w.copies × AreAmong rs w.replies × AreAmong ns w.news × Happens more late (left_with xs rs ns w) late' v
Happens (Arrives xs ∷ more) late w late' v = AreAmong xs late × Happens more late (with_more xs w) late' v
Happens (Redoes x ∷ more) late w late' v = RedoesOn w x × Happens more late (with_copy w x) late' v
Happens (TakesOver p turns ∷ more) late w late' v =
    (last : Whole) × GoesOn turns p w last × AreAmong w.copies last.copies × IsWritten p.events p.notes (with_more late last)
    × Happens more (last.copies ++ late) (come_back p.events p.notes w) late' v
