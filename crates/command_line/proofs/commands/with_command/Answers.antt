use Rattle.std.proofs.Common.{◌≡◌, ◌∙◌, false, ap, ap₂, subst, IfOk}
use Rattle.std.proofs.lemmas.Result.{IfOk-weaker}
use Rattle.clap.specs.Words.{App, app_of, with_subcommand}
use Rattle.clap.specs.Simple.{app_of_fields}
use Rattle.clap.specs.declared.builder.command.Command.TheViews.{out-Command}
use Rattle.command_line.proofs.commands.with_command.Goals as goal

pub returns-in-Ok-procd : goal.returns-in-Ok-procd
returns-in-Ok-procd c = λ whole app whole_is is local.
    let procd_is = subst (λ (m : _). IfOk m (λ x. app_of x ≡ whole)) c.in-Ok-procd.is whole_is in
    let made_is = subst (λ (m : _). IfOk m (λ x. app_of x ≡ app)) c.in-Ok.is is in
    let made_local = subst (λ (m : _). IfOk m (λ x. (out-Command x).has_globals ≡ false)) c.in-Ok.is local in
    let app_is : app_of c.about.result ≡ app = ap app_of_fields c.about.ensures ∙ made_is in
    let locally = ap (λ (f : _). f.has_globals) c.about.ensures ∙ made_local in
    let added = ap₂ (λ (w a : App). with_subcommand w a.top) procd_is app_is in
    IfOk-weaker c.subcommand.result _ _ (λ r h. h.shape locally ∙ added) c.subcommand.ensures
