use Rattle.std.proofs.Common.{ℕ, [], ◌∷◌, subst}
use Rattle.coming_back.specs.Joining.Moving.{Moves, CameOf}
use Rattle.coming_back.proofs.MovingLemmas.{moves_same, came_none, some_open}
use Rattle.coming_back.proofs.resuming.resume.Goals as goal

pub run-requires : goal.run-requires
run-requires c = (let found = c.in-Some.ensures.found in some_open c.args.state.now c.args.serial c.in-Some.txn.serial found.0 found.1)

pub returns-in-Some-clause-moves : goal.returns-in-Some-clause-moves
returns-in-Some-clause-moves c = subst (λ (u : ℕ). Moves u c.args.state.now c.args.dcs.now c.run.new.state
    c.run.new.dcs) c.in-Some.ensures.found.0 c.run.ensures.moves

pub returns-in-Some-clause-came : goal.returns-in-Some-clause-came
returns-in-Some-clause-came c = subst (λ (u : ℕ). CameOf c.args.state.now c.run.new.state u (c.run.result ∷ [])) c.in-Some.ensures.found.0 c.run.ensures.came

pub returns-in-None-clause-moves : goal.returns-in-None-clause-moves
returns-in-None-clause-moves c = moves_same c.args.serial c.args.state.now c.args.dcs.now

pub returns-in-None-clause-came : goal.returns-in-None-clause-came
returns-in-None-clause-came c = came_none c.args.state.now c.args.serial c.in-None.ensures.absent
