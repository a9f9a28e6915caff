use Rattle.std.proofs.Common.{sym, subst}
use Rattle.std.proofs.lemmas.Result.{IfOk-weaker, IfErr-weaker}
use Rattle.run_ground.specs.declared.stop.Stop.{Stop}
use Rattle.run_ground.specs.Stops.{IsUnkept}
use Rattle.run_calls.specs.Stops.{Stops}
use Rattle.run_command.proofs.running.stopped_at.Goals as goal

pub returns-in-NotKept-clause-fault : goal.returns-in-NotKept-clause-fault
returns-in-NotKept-clause-fault c = λ keeps workers tries stops.
    let kept = subst (λ (stop : Stop). Stops keeps workers tries stop) c.in-NotKept.is stops in
    subst (λ (stop : Stop). IsUnkept keeps stop) (sym c.in-NotKept.is) kept.0

pub returns-in_default-clause-ok : goal.returns-in_default-clause-ok
returns-in_default-clause-ok c =
    IfOk-weaker c.with_journal.result _ _ (λ r h. (rw h.0 at c.stopped.ensures.status, rw h.0 at c.stopped.ensures.lines)) c.with_journal.ensures.ok

pub returns-in_default-clause-fault : goal.returns-in_default-clause-fault
returns-in_default-clause-fault c = λ keeps workers tries stops.
    IfErr-weaker c.with_journal.result _ _ (λ e is. subst (λ (stop : Stop). IsUnkept keeps stop) (sym is) tt) c.with_journal.ensures.err
