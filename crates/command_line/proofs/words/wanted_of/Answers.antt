use Rattle.std.proofs.Common.{◌≡◌, ◌∙◌, ap, sym, subst, map, Some, None, Err, List, option_map, codes, rules}
use Rattle.clap.specs.Words.{Row, Text, first_of, found_of, rows_of}
use Rattle.clap.proofs.WalkLemmas.{first_value-rows}
use Rattle.command_line.specs.Said.{SaysWish, IsUnfit, Refused, NoCommand, Unfit}
use Rattle.command_line.specs.Task.{command_name}
use Rattle.command_line.proofs.Options.{some_some, none_some}
use Rattle.command_line.proofs.Wishes.{name_of_rows, pair_of, rightly, wrong_shows_nothing}
use Rattle.command_line.proofs.words.wanted_of.Goals as goal

pub returns-in_default-get_str-clause-wanted : goal.returns-in_default-get_str-clause-wanted
returns-in_default-get_str-clause-wanted g c = λ file wish says.
    let found = found_of c.in-Some.inner.now in
    let entered = c.in-Ok.ensures.ok ∙ says.entered in
    let rows_is : rows_of found ≡ says.rows = some_some _ _
    (ap (option_map (λ p. rows_of (found_of p.1.now))) (sym c.in-Some.is) ∙ c.subcommand.ensures.rows
    ∙ ap (option_map (λ (p : Text × List Row). p.1)) entered) in
    none_some file (ap (option_map (λ s. s.now)) (sym c.in_default-get_str.is) ∙ c.get_str.ensures ∙ first_value-rows
    found (codes "file") ∙ ap (first_of (codes "file")) rows_is ∙ says.file_is)

pub returns-clause-wanted : goal.returns-clause-wanted
returns-clause-wanted g c = λ file wish says.
    let found = found_of c.in-Some.inner.now in
    let m = c.in-Ok.matches in
    let entered = c.in-Ok.ensures.ok ∙ says.entered in
    let rows_is : rows_of found ≡ says.rows = some_some _ _
    (ap (option_map (λ p. rows_of (found_of p.1.now))) (sym c.in-Some.is) ∙ c.subcommand.ensures.rows
    ∙ ap (option_map (λ (p : Text × List Row). p.1)) entered) in
    let name_is : c.in-Some.name.now ≡ command_name wish = some_some _ _
    (ap (option_map (λ p. p.0.now)) (sym c.in-Some.is) ∙ c.subcommand.ensures.name ∙ name_of_rows m
    ∙ ap (option_map (λ (p : Text × List Row). p.0)) entered) in (
      some_some _ _ (ap (option_map (λ s. s.now)) (sym c.in-Some-get_str.is) ∙ c.get_str.ensures ∙ first_value-rows
          found (codes "file") ∙ ap (first_of (codes "file")) rows_is ∙ says.file_is),
      c.in_ok-task.ensures.task wish name_is (subst (λ (rs : List Row). SaysWish rs wish) (sym rows_is) says.wish_is),
    )

pub returns-in-Err-clause-wrong : goal.returns-in-Err-clause-wrong
returns-in-Err-clause-wrong g c = λ wrong. wrong_shows_nothing (map g.S.AsStr.text c.args.words.now) c.in-Err.error c.in-Err.ensures.kinds wrong

pub returns-clause-wrong : goal.returns-clause-wrong
returns-clause-wrong g c = λ wrong.
    let found = found_of c.in-Some.inner.now in
    let m = c.in-Ok.matches in
    elim wrong [
      | Refused refused ↦ refused.0 c.in-Ok.ensures.kinds
      | NoCommand accepted none ↦ none_some _ (sym (ap (option_map (λ p. rows_of (found_of p.1.now))) (sym c.in-Some.is) ∙ c.subcommand.ensures.rows
          ∙ ap (option_map (λ (p : Text × List Row). p.1)) (c.in-Ok.ensures.ok ∙ none)))
      | Unfit accepted name rows entered unfit ↦
          let entered = c.in-Ok.ensures.ok ∙ entered in
          let rows_is : rows_of found ≡ rows = some_some _ _
          (ap (option_map (λ p. rows_of (found_of p.1.now))) (sym c.in-Some.is) ∙ c.subcommand.ensures.rows
          ∙ ap (option_map (λ (p : Text × List Row). p.1)) entered) in
          let name_is : c.in-Some.name.now ≡ name = some_some _ _
          (ap (option_map (λ p. p.0.now)) (sym c.in-Some.is) ∙ c.subcommand.ensures.name ∙ name_of_rows m
          ∙ ap (option_map (λ (p : Text × List Row). p.0)) entered) in
          c.in_ok-task.ensures.wrong (subst (λ (n : Text). IsUnfit n (rows_of found)) (sym name_is) (subst (IsUnfit name) (sym rows_is) unfit))
    ]

pub returns-in_err-task-clause-told : goal.returns-in_err-task-clause-told
returns-in_err-task-clause-told g c =
    let found = found_of c.in-Some.inner.now in
    let m = c.in-Ok.matches in
    let rows = ap (option_map (λ p. rows_of (found_of p.1.now))) (sym c.in-Some.is) ∙ c.subcommand.ensures.rows in
    let name = ap (option_map (λ p. p.0.now)) (sym c.in-Some.is) ∙ c.subcommand.ensures.name ∙ name_of_rows m in
    let is : c.from_residual.result ≡ Err c.in_err-task.field-0.0 = search rules in
    let entered = sym c.in-Ok.ensures.ok ∙ pair_of _ _ _ name rows in
    rw is (rightly (map g.S.AsStr.text c.args.words.now) c.in-Some.name.now (rows_of found) entered c.in_err-task.field-0.0 c.in_err-task.ensures.err)
