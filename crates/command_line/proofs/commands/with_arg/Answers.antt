use Rattle.std.proofs.Common.{◌≡◌, ◌∙◌, ap₂, false, subst, IfOk}
use Rattle.std.proofs.lemmas.Result.{IfOk-weaker}
use Rattle.clap.specs.Words.{app_of, with_rule}
use Rattle.clap.specs.declared.builder.command.Command.TheViews.{out-Command}
use Rattle.command_line.proofs.Options.{still_local}
use Rattle.command_line.proofs.commands.with_arg.Goals as goal

pub returns-in-Ok-clause-app : goal.returns-in-Ok-clause-app
returns-in-Ok-clause-app c = λ app rule is rules local.
    let made_is = subst (λ (m : _). IfOk m (λ x. app_of x ≡ app)) c.in-Ok.is is in
    IfOk-weaker c.arg.result _ _ (λ r h. h.shape local ∙ ap₂ with_rule made_is rules) c.arg.ensures

pub returns-in-Ok-clause-local : goal.returns-in-Ok-clause-local
returns-in-Ok-clause-local c = λ made_local local.
    let before = subst (λ (m : _). IfOk m (λ x. (out-Command x).has_globals ≡ false)) c.in-Ok.is made_local in
    IfOk-weaker c.arg.result _ _ (λ r h. still_local _ _ _ h.globals before local) c.arg.ensures
