use Rattle.std.proofs.Common.{rules, ◌≡◌, Bool, List, ap, ◌∙◌}
use Rattle.std.specs.Prelude.{slice_set}
use Rattle.interpreter.specs.Joining.Filled.{filled_ones}
use Rattle.interpreter.proofs.Filling.{set_is}
use Rattle.interpreter.proofs.registers.Registers.set.Goals as goal

pub returns : goal.returns
returns c = ap (λ (marks : List Bool). filled_ones (slice_set c.self.inside.values c.index.result c.args.value) marks) c.fill.ensures
    ∙ set_is c.args.self.now c.self.inside.values c.self.inside.filled.marks _ c.index.result c.index-2.result
    c.args.value c.self.view_is c.self.invariant c.index.ensures.number c.index-2.ensures.number
