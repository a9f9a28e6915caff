use Rattle.std.proofs.Common.{◌≡◌, ◌∙◌, ap, refl, sym, subst, Option, List, [], ℕ, map, unwrap_or, codes}
use Rattle.std.proofs.lemmas.Result.{IfErr-weaker, IfOk-weaker}
use Rattle.std.specs.Borrow.{Bor}
use Rattle.clap.specs.Words.{Text, found_of, rows_of}
use Rattle.clap.specs.Walk.{all_of}
use Rattle.clap.proofs.WalkLemmas.{raw_values-rows}
use Rattle.command_line.specs.Said.{AllNumbers, value_of}
use Rattle.command_line.specs.Wanted.{IsNumbersOrNoMemory}
use Rattle.command_line.proofs.Options.{texts_or_none}
use Rattle.command_line.proofs.Wishes.{of_arguments}
use Rattle.command_line.proofs.words.numbers_in.Goals as goal

pub returns-clause-numbers : goal.returns-clause-numbers
returns-clause-numbers c = λ numbers says.
    let found = found_of c.args.matches.now in
    let all_is = sym (raw_values-rows found (codes "arg")) ∙ sym c.get_strs.ensures in
    let texts : map (λ (s : Bor (List ℕ)). s.now) c.unwrap_or.result.now ≡ unwrap_or (all_of (codes "arg") (rows_of found)) [] =
    ap (λ (r : Bor (List (Bor (List ℕ)))). map (λ (s : Bor (List ℕ)). s.now) r.now) c.unwrap_or.ensures
    ∙ (texts_or_none c.get_strs.result _ refl ∙ ap (λ (o : Option (List Text)). unwrap_or o []) (sym all_is)) in
    subst (λ (ns : List ℕ). IsNumbersOrNoMemory ns c.numbers_of.result) (ap (map value_of) texts ∙ sym says.1)
    (c.numbers_of.ensures.numbers (subst AllNumbers (sym texts) says.0))

pub returns-clause-all : goal.returns-clause-all
returns-clause-all c =
    let found = found_of c.args.matches.now in
    let all_is = sym (raw_values-rows found (codes "arg")) ∙ sym c.get_strs.ensures in
    let texts : map (λ (s : Bor (List ℕ)). s.now) c.unwrap_or.result.now ≡ unwrap_or (all_of (codes "arg") (rows_of found)) [] =
    ap (λ (r : Bor (List (Bor (List ℕ)))). map (λ (s : Bor (List ℕ)). s.now) r.now) c.unwrap_or.ensures
    ∙ (texts_or_none c.get_strs.result _ refl ∙ ap (λ (o : Option (List Text)). unwrap_or o []) (sym all_is)) in
    IfOk-weaker c.numbers_of.result _ _ (λ v all. subst AllNumbers texts all) c.numbers_of.ensures.all

pub returns-clause-err : goal.returns-clause-err
returns-clause-err c =
    let found = found_of c.args.matches.now in
    let all_is = sym (raw_values-rows found (codes "arg")) ∙ sym c.get_strs.ensures in
    let texts : map (λ (s : Bor (List ℕ)). s.now) c.unwrap_or.result.now ≡ unwrap_or (all_of (codes "arg") (rows_of found)) [] =
    ap (λ (r : Bor (List (Bor (List ℕ)))). map (λ (s : Bor (List ℕ)). s.now) r.now) c.unwrap_or.ensures
    ∙ (texts_or_none c.get_strs.result _ refl ∙ ap (λ (o : Option (List Text)). unwrap_or o []) (sym all_is)) in
    IfErr-weaker c.numbers_of.result _ _ (λ e h. of_arguments (rows_of found) _ texts e h) c.numbers_of.ensures.err
