use Rattle.std.proofs.Common.{arith}
use Rattle.coming_back.proofs.FullLemmas.{matched_then}
use Rattle.coming_back.proofs.RedoLemmas.{redoes_at_then}
use Rattle.coming_back.proofs.redoing.redo.Goals as goal

pub returns-in-Err-clause-redoes : goal.returns-in-Err-clause-redoes
returns-in-Err-clause-redoes c = redoes_at_then _ _ _ _ _ _ _ c.loop-fault.invariant.redoes c.redo_one.ensures.redoes

pub returns-in-Err-clause-full : goal.returns-in-Err-clause-full
returns-in-Err-clause-full c = λ is matched. c.in-Err.ensures.full is (matched_then _ _ _ _ _ c.loop-fault.invariant.redoes.redoes matched)

pub loop-fault-preserved : goal.loop-fault-preserved
loop-fault-preserved c = record {
  redoes = redoes_at_then _ _ _ _ _ _ _ c.loop-fault.invariant.redoes c.redo_one.ensures.redoes;
  done = λ so. c.in-Ok-false.ensures.done (c.loop-fault.invariant.done so);
  low = (let many = c.redo_one.ensures.redoes.redoes.count in let low = c.loop-fault.invariant.low in omega (arith, many, low));
}

pub returns-in-Ok-true-clause-redoes : goal.returns-in-Ok-true-clause-redoes
returns-in-Ok-true-clause-redoes c = redoes_at_then _ _ _ _ _ _ _ c.loop-fault.invariant.redoes c.redo_one.ensures.redoes

pub returns-in-Ok-true-clause-done : goal.returns-in-Ok-true-clause-done
returns-in-Ok-true-clause-done c = λ so. c.in-Ok-true.ensures.done (c.loop-fault.invariant.done so)
