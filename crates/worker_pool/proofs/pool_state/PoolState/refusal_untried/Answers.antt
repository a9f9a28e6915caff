use Rattle.std.proofs.Common.{None, subst}
use Rattle.tc_core.specs.Admission.{call_of}
use Rattle.worker_pool.specs.Answers.{AnswerFits}
use Rattle.worker_pool.specs.Joining.Seen.{Seen}
use Rattle.worker_pool.specs.declared.answer.Answer.TheVariants.{Refused}
use Rattle.worker_pool.proofs.Refusing.{untried_fits}
use Rattle.worker_pool.proofs.pool_state.PoolState.refusal_untried.Goals as goal

pub returns : goal.returns
returns g c =
    let why = c.untried.result in
    let call = call_of c.args.call.now in
    subst (λ (v : Seen). AnswerFits g.J.RunSpec.start v.state call (Refused why) None) c.self.view_is
    (untried_fits g.J.RunSpec.start c.self.inside.state call why c.self.invariant.0.stays (rw c.procs.ensures at c.untried.ensures))
