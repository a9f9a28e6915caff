use Rattle.std.proofs.Common.{rules, ◌≡◌, Bool, List, ap, ◌∙◌}
use Rattle.std.specs.Prelude.{slice_set}
use Rattle.interpreter.specs.Joining.Filled.{filled_ones}
use Rattle.interpreter.proofs.Filling.{returned_is}
use Rattle.interpreter.proofs.registers.Registers.returned.Goals as goal

pub returns : goal.returns
returns c = ap (λ (marks : List Bool). filled_ones (slice_set c.self.inside.values 0 c.args.value) marks) c.call.ensures
    ∙ returned_is c.args.self.now c.self.inside.values c.self.inside.filled.marks c.args.value c.self.view_is c.self.invariant
