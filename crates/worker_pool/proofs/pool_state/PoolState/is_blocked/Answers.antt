use Rattle.std.proofs.Common.{None, sym, subst}
use Rattle.history.specs.Calls.{Call}
use Rattle.tc_core.specs.Admission.{call_of, IsRefused}
use Rattle.tc_core.specs.declared.state.Refusal.TheVariants.{Busy}
use Rattle.worker_pool.specs.Answers.{AnswerFits}
use Rattle.worker_pool.specs.Joining.Seen.{Seen}
use Rattle.worker_pool.specs.declared.answer.Answer.TheVariants.{Blocked}
use Rattle.worker_pool.proofs.Refusing.{blocked_fits}
use Rattle.worker_pool.proofs.pool_state.PoolState.is_blocked.Goals as goal

pub returns : goal.returns
returns g c = λ yes. (
    let state = c.self.inside.state in
    let call : Call = call_of c.args.call.now in
    let keeps = c.self.invariant.0 in
    let refused = subst (λ (v : Seen). IsRefused v.state call (Busy c.args.busy)) (sym c.self.view_is) c.requires in
    subst (λ (v : Seen). AnswerFits g.J.RunSpec.start v.state call (Blocked c.args.busy) None) c.self.view_is
    (blocked_fits g.J.RunSpec.start state call c.args.busy keeps.stays keeps.begins refused (c.blocked.ensures.0 yes)))
