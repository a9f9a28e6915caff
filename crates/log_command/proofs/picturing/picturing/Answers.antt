use Rattle.std.proofs.lemmas.Result.{IfOk-weaker}
use Rattle.log_command.specs.PictureReport.{Drawn}
use Rattle.log_command.proofs.picturing.picturing.Goals as goal

pub returns-in-Ok : goal.returns-in-Ok
returns-in-Ok c = IfOk-weaker c.pictured_log.result _ _ (λ p drawn. Drawn c.in-Ok.stored c.in-Ok.ensures.says drawn) c.pictured_log.ensures
