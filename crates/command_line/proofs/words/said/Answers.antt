use Rattle.std.proofs.Common.{◌≡◌, ◌∙◌, ap, refl, subst, true, map}
use Rattle.std.proofs.lemmas.Result.{IfErr-weaker, IfOk-weaker}
use Rattle.clap.specs.Words.{App, FailsBy, Kinds, fault_of, is_simple, is_simple_and_free, subcommand_of, takes}
use Rattle.clap.proofs.OnLiterals.{clap_on_literals}
use Rattle.command_line.specs.Said.{procd_app}
use Rattle.command_line.proofs.words.said.Goals as goal

simple : is_simple procd_app ≡ true
unfolding procd_app clap_on_literals
simple = refl

pub returns-clause-ok : goal.returns-clause-ok
returns-clause-ok g c =
    let is = c.in_ok-command.ensures in
    let texts = map g.S.AsStr.text c.args.words.now in
    let parse = c.try_get_matches_from in
    IfOk-weaker parse.result _ _ (λ m h. (h (ap is_simple is ∙ simple)).1 ∙ ap (λ (a : App). subcommand_of a texts) is) parse.ensures.matches

pub returns-clause-err : goal.returns-clause-err
returns-clause-err g c =
    let is = c.in_ok-command.ensures in
    let texts = map g.S.AsStr.text c.args.words.now in
    let parse = c.try_get_matches_from in
    IfErr-weaker parse.result _ _ (λ e h t. h (ap (λ (a : App). takes a texts) is ∙ t)) parse.ensures.passes

free : is_simple_and_free procd_app ≡ true
unfolding procd_app clap_on_literals
free = refl

pub returns-clause-kinds : goal.returns-clause-kinds
returns-clause-kinds g c =
    let is = c.in_ok-command.ensures in
    let texts = map g.S.AsStr.text c.args.words.now in
    let parse = c.try_get_matches_from in
    subst (λ (kinds : Kinds). FailsBy kinds parse.result) (ap (λ (a : App). fault_of a texts) is)
    (parse.ensures.kinds (ap is_simple_and_free is ∙ free))
