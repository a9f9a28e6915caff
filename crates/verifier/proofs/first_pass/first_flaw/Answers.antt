use Rattle.std.proofs.Common.{length, sym, ◌∙◌}
use Rattle.verifier.specs.Flow.{flow_at}
use Rattle.verifier.proofs.Firsts.{goes_on, is_here, is_none}
use Rattle.verifier.proofs.first_pass.first_flaw.Goals as goal

pub loop-at-preserved : goal.loop-at-preserved
loop-at-preserved c = goes_on (flow_at c.args.code.now) c.loop-at.at (length c.args.code.now) _ c.loop-at-test.true (sym c.flow_at.ensures ∙ c.in_default.is) c.loop-at.invariant

pub returns-in-Some : goal.returns-in-Some
returns-in-Some c = sym (is_here (flow_at c.args.code.now) c.loop-at.at (length c.args.code.now) c.in-Some.violation _ c.loop-at-test.true (sym c.in-Some.ensures) c.loop-at.invariant)

pub returns : goal.returns
returns c = sym (is_none (flow_at c.args.code.now) c.loop-at.at (length c.args.code.now) _ c.loop-at-test.false c.loop-at.invariant)
