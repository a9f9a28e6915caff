use Rattle.std.proofs.Common.{◌≡◌, List, [], true, false, refl, ◌∙◌, subst}
use Rattle.verifier.specs.Checked.{Checked}
use Rattle.transactions.proofs.StandingLemmas.{some_same}
use Rattle.tc_core.proofs.Resuming.{starts, pauses_plain}
use Rattle.call_results.specs.Joining.Along.{Runs}
use Rattle.call_results.specs.declared.rerun.Rerun.{Rerun}
use Rattle.call_results.proofs.rerun.Rerun.begin.Goals as goal

pub returns-clause-runs : goal.returns-clause-runs
returns-clause-runs c = λ q loaded.
    let code = c.in-Some.code.now in
    let same : code ≡ q = some_same code q (c.in-Some.ensures ∙ loaded) in
    let s = c.restart.ensures in
    let m = c.restart.new.self in
    let r : Rerun = record {
      slot = c.args.self.now.slot;
      is_open = true;
      proc = c.args.proc;
      machine = c.resume-self.new.self;
      pause = c.resume-self.result;
      is_undoing = false;
      is_full = false;
      is_there = false;
    } in
    let layout = s.args.1 ∙ c.plain.ensures in
    let stops = c.resume-self.ensures.stops [] (starts code m c.args.args.now c.plain.result s.entry s.args.0 s.args.1) in
    subst (λ (x : Checked). Runs x r c.args.args.now []) same (record {
      started = c.resume-self.ensures.started;
      call = c.resume-self.ensures.same.0 ∙ s.args.0;
      layout = c.resume-self.ensures.same.1 ∙ layout;
      pauses = pauses_plain code m _ _ c.args.args.now [] s.args.0 layout stops;
      there = refl;
    })
