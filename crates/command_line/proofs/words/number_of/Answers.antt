use Rattle.std.proofs.Common.{◌≡◌, ◌∙◌, ap, sym, List, ℕ, Some, None, option_map}
use Rattle.std.specs.Borrow.{Bor}
use Rattle.clap.specs.Words.{first_of, found_of, rows_of}
use Rattle.clap.proofs.WalkLemmas.{first_value-rows}
use Rattle.command_line.specs.Numbers.{id_of}
use Rattle.command_line.proofs.Wishes.{number_there, number_silent, number_wrong}
use Rattle.command_line.proofs.words.number_of.Goals as goal

pub returns-in_default-clause-ok : goal.returns-in_default-clause-ok
returns-in_default-clause-ok c =
    let found = found_of c.args.matches.now in
    let named = id_of c.args.option in
    let at : None ≡ first_of named (rows_of found) = ap (option_map (λ (s : Bor (List ℕ)). s.now)) (sym c.in_default.is)
    ∙ c.get_str.ensures ∙ first_value-rows found _ ∙ ap (λ (n : List ℕ). first_of n (rows_of found)) c.id.ensures in
    number_silent (first_of named (rows_of found)) at

pub returns-in-Some-digits_of-clause-ok : goal.returns-in-Some-digits_of-clause-ok
returns-in-Some-digits_of-clause-ok c =
    let found = found_of c.args.matches.now in
    let named = id_of c.args.option in
    let at : Some c.in-Some.given.now ≡ first_of named (rows_of found) = ap (option_map (λ (s : Bor (List ℕ)). s.now)) (sym c.in-Some.is)
    ∙ c.get_str.ensures ∙ first_value-rows found _ ∙ ap (λ (n : List ℕ). first_of n (rows_of found)) c.id.ensures in
    number_there (first_of named (rows_of found)) c.in-Some.given.now c.in-Some-digits_of.n at c.in-Some-digits_of.ensures.some.0
    c.in-Some-digits_of.ensures.some.1

pub returns-in-None-clause-err : goal.returns-in-None-clause-err
returns-in-None-clause-err c =
    let found = found_of c.args.matches.now in
    let named = id_of c.args.option in
    let at : Some c.in-Some.given.now ≡ first_of named (rows_of found) = ap (option_map (λ (s : Bor (List ℕ)). s.now)) (sym c.in-Some.is)
    ∙ c.get_str.ensures ∙ first_value-rows found _ ∙ ap (λ (n : List ℕ). first_of n (rows_of found)) c.id.ensures in
    let wrong = c.digits_of.ensures.none c.in-None.is in
    ((sym at, wrong), number_wrong (first_of named (rows_of found)) c.in-Some.given.now at wrong)
