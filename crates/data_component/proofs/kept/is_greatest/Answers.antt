use Rattle.std.proofs.Common.{sym}
use Rattle.data_component.proofs.Remembering.{all_lesser}
use Rattle.data_component.proofs.kept.is_greatest.Goals as goal

pub returns-in-Some : goal.returns-in-Some
returns-in-Some c = all_lesser c.args.kept.now c.args.number c.in-Some.last.now c.requires (sym c.in-Some.ensures.value)
