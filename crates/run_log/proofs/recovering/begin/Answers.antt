use Rattle.std.proofs.lemmas.Result.{IfOk-weaker}
use Rattle.run_log.specs.Recovering.{IsOpened}
use Rattle.run_log.proofs.RecoveringLemmas.{begun_by}
use Rattle.run_log.proofs.recovering.begin.Goals as goal

pub returns-in-Ready : goal.returns-in-Ready
returns-in-Ready g c =
    let opened : IsOpened c.args.state.now c.in-Ready.opened = rw c.in-Ready.is at c.in_ok-opened.ensures in
    IfOk-weaker c.go_back.result _ _ (λ x h. begun_by c.args.state.now c.args.dcs.now c.go_back.new.state c.go_back.new.dcs c.in-Ready.opened x opened h)
    (c.go_back.ensures opened)

pub returns-in-Refused : goal.returns-in-Refused
returns-in-Refused g c = rw c.in-Refused.is at c.in_ok-opened.ensures
