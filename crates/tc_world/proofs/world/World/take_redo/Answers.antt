use Rattle.std.proofs.Common.{ℕ, refl, subst}
use Rattle.tc_core.specs.Redo.{IsRedone}
use Rattle.tc_world.specs.Whole.{Whole}
use Rattle.tc_world.proofs.world.World.take_redo.Goals as goal

pub returns-in_default-clause-why : goal.returns-in_default-clause-why
returns-in_default-clause-why c = (refl, subst (λ (v : Whole). (d : ℕ) → IsRedone v.core d c.args.reply.now → ⊥) c.self.view_is c.in_default.ensures.none)
