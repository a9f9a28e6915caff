use Rattle.std.proofs.lemmas.Result.{IfOk-weaker}
use Rattle.run_log.specs.LogLines.{Anothers, Nobodys}
use Rattle.run_log.proofs.log_lines.other_refusal.Goals as goal

pub returns-in-Ok : goal.returns-in-Ok
returns-in-Ok c = IfOk-weaker c.others_line.result _ _ (λ line is. Anothers c.in-Ok.stored c.in-Ok.ensures.says is) c.others_line.ensures

pub returns-in-Err : goal.returns-in-Err
returns-in-Err c = IfOk-weaker c.from_str.result _ _ (λ line is. Nobodys c.in-Err.field-0 c.in-Err.ensures.fault is) c.from_str.ensures.ok
