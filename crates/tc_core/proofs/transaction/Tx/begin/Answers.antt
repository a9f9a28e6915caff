use Rattle.std.proofs.Common.{[], ◌∙◌}
use Rattle.tc_core.proofs.Resuming.{starts, pauses_plain}
use Rattle.tc_core.proofs.transaction.Tx.begin.Goals as goal

pub returns-clause-runs : goal.returns-clause-runs
returns-clause-runs c =
    let s = c.restart.ensures in
    let m = c.restart.new.self in
    let layout = s.args.1 ∙ c.plain.ensures in
    let stops = c.resume-self.ensures.stops [] (starts c.args.code.now m c.args.args.now c.plain.result s.entry s.args.0 s.args.1) in
    record {
      started = c.resume-self.ensures.started;
      call = c.resume-self.ensures.same.0 ∙ s.args.0;
      layout = c.resume-self.ensures.same.1 ∙ layout;
      pauses = pauses_plain c.args.code.now m _ _ c.args.args.now [] s.args.0 layout stops;
    }
