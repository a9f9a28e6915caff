use Rattle.std.proofs.Common.{◌∙◌, ap₂}
use Rattle.std.proofs.lemmas.Result.{IfOk-weaker}
use Rattle.clap.specs.Words.{with_rule}
use Rattle.command_line.proofs.Options.{still_local}
use Rattle.command_line.proofs.commands.asm_command.Goals as goal

pub returns-clause-app : goal.returns-clause-app
returns-clause-app c =
    IfOk-weaker c.arg.result _ _
    (λ r h. h.shape c.file_arg.ensures.local ∙ ap₂ with_rule c.new.ensures.app c.file_arg.ensures.rule) c.arg.ensures

pub returns-clause-local : goal.returns-clause-local
returns-clause-local c = IfOk-weaker c.arg.result _ _ (λ r h. still_local _ _ _ h.globals c.new.ensures.local c.file_arg.ensures.local) c.arg.ensures
