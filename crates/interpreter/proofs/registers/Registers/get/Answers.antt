use Rattle.std.proofs.Common.{rules, arith, ◌≡◌}
use Rattle.interpreter.proofs.Filling.{get_is}
use Rattle.interpreter.proofs.registers.Registers.get.Goals as goal

pub returns : goal.returns
returns c = get_is c.args.self.now c.self.inside.values c.self.inside.filled.marks _ c.index.result 0 c.self.view_is c.self.invariant c.index.ensures.number (search rules) c.requires
