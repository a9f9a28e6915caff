use Rattle.std.proofs.Common.{◌≡◌, ◌∙◌, ap, subst}
use Rattle.tc_core.specs.declared.recovery.RecoverFault.TheVariants.{Begun, DcCount}
use Rattle.coming_back.specs.declared.coming.ComeBackFault.TheVariants.{Recover}
use Rattle.log_command.specs.Joining.Beginning.{IsOfLog}
use Rattle.log_command.proofs.refusing.unfit_line.Goals as goal

pub unreachable-requires : goal.unreachable-requires
unreachable-requires c =
    let it = c.in-Recover-Begun in
    let why : it.field-0 ≡ Begun = rw it.is at it.field-0-is in
    subst IsOfLog (it.is ∙ ap Recover why) c.requires

pub unreachable-requires-in-Recover-DcCount : goal.unreachable-requires-in-Recover-DcCount
unreachable-requires-in-Recover-DcCount c =
    let it = c.in-Recover-DcCount in
    let why : it.field-0 ≡ DcCount = rw it.is at it.field-0-is in
    subst IsOfLog (it.is ∙ ap Recover why) c.requires
