use Rattle.std.proofs.Common.{ap}
use Rattle.tc_world.specs.Whole.{Whole}
use Rattle.tc_world.proofs.Running.{all_held, all_covered, all_apart, is_legal}
use Rattle.tc_world.proofs.Marks.{open_above_marks}
use Rattle.tc_world.proofs.LivingLemmas.{living_serial, living_agreed}
use Rattle.tc_world.proofs.world.World.step.Goals as goal

pub returns-clause-legal : goal.returns-clause-legal
returns-clause-legal c = is_legal _ _ (ap (λ (w : Whole). w.core) c.self.view_is) c.known.ensures.legal

pub returns-clause-covered : goal.returns-clause-covered
returns-clause-covered c = all_covered _ _ (ap (λ (w : Whole). w.core) c.self.view_is) c.known.ensures.legal c.known.ensures.good

pub returns-clause-held : goal.returns-clause-held
returns-clause-held c = all_held _ _ (ap (λ (w : Whole). w.core) c.self.view_is) c.known.ensures.legal c.known.ensures.good

pub returns-clause-apart : goal.returns-clause-apart
returns-clause-apart c = all_apart _ _ (ap (λ (w : Whole). w.core) c.self.view_is) c.known.ensures.legal c.known.ensures.good

pub returns-clause-open_above : goal.returns-clause-open_above
returns-clause-open_above c low =
    let legal = is_legal _ _ (ap (λ (w : Whole). w.core) c.self.view_is) c.known.ensures.legal in
    open_above_marks c.keep_step-told.new.self legal (c.keep_step-told.ensures.marks low)

pub returns-clause-one_at_a_time : goal.returns-clause-one_at_a_time
returns-clause-one_at_a_time c honest lived = living_serial c.keep_step-told.new.self (c.keep_step-told.ensures.lived honest lived)

pub returns-clause-agreed : goal.returns-clause-agreed
returns-clause-agreed c honest lived each = living_agreed c.keep_step-told.new.self (c.keep_step-told.ensures.lived honest lived) each
