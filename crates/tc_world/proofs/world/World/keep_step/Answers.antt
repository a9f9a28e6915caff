use Rattle.std.proofs.Common.{ap}
use Rattle.tc_world.specs.Whole.{Whole}
use Rattle.tc_world.proofs.Running.{is_legal}
use Rattle.tc_world.proofs.Marks.{stay_low}
use Rattle.tc_world.proofs.Listed.{is_known, stay_listed}
use Rattle.tc_world.proofs.LivingLemmas.{step_lived}
use Rattle.tc_world.proofs.world.World.keep_step.Goals as goal

pub returns-clause-marks : goal.returns-clause-marks
returns-clause-marks c low =
    let was = is_legal _ _ (ap (λ (w : Whole). w.core) c.self.view_is) c.known.ensures.legal in
    let legal = is_legal _ _ (ap (λ (w : Whole). w.core) c.self-2.view_is) c.known-2.ensures.legal in
    stay_low c.args.self.now c.try_step.new.self c.args.step.now c.in_ok-outcome.outcome was legal c.in_ok-outcome.ensures.ok low

pub returns-clause-listed : goal.returns-clause-listed
returns-clause-listed c honest listed =
    let was = is_known _ _ (ap (λ (w : Whole). w.core) c.self.view_is) c.known.ensures.legal c.known.ensures.good in
    let known = is_known _ _ (ap (λ (w : Whole). w.core) c.self-2.view_is) c.known-2.ensures.legal c.known-2.ensures.good in
    stay_listed c.args.self.now c.try_step.new.self c.args.step.now c.in_ok-outcome.outcome was known honest c.in_ok-outcome.ensures.ok listed

pub returns-clause-lived : goal.returns-clause-lived
returns-clause-lived c honest lived =
    let known = is_known _ _ (ap (λ (w : Whole). w.core) c.self-2.view_is) c.known-2.ensures.legal c.known-2.ensures.good in
    step_lived c.args.self.now c.try_step.new.self c.args.step.now c.in_ok-outcome.outcome known honest c.in_ok-outcome.ensures.ok lived
