use Rattle.std.proofs.Common.{rules, arith, ◌≡◌}
use Rattle.interpreter.proofs.Filling.{peek_is}
use Rattle.interpreter.proofs.registers.Registers.peek.Goals as goal

pub returns : goal.returns
returns c = λ v has. peek_is c.args.self.now c.self.inside.values c.self.inside.filled.marks _ c.index.result 0 v c.self.view_is c.self.invariant c.index.ensures.number (search rules) has
