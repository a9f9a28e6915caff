use Rattle.std.proofs.Common.{◌≡◌, true, false, ◌∷◌, [], ◌++◌, get_or, sym, ◌∙◌, subst}
use Rattle.log_file.specs.Bytes.{Rows}
use Rattle.log_file.specs.Reading.{Rise}
use Rattle.log_file.proofs.BaseLemmas.{broken, no_row}
use Rattle.log_file.proofs.base.add_rising.Goals as goal

pub returns-then-not-is_above-clause-no : goal.returns-then-not-is_above-clause-no
returns-then-not-is_above-clause-no c told rise =
    let one = get_or c.args.rows.now c.rows.row-index no_row ∷ [] in
    broken c.args.base.now.items c.args.rows.now c.rows.base.items c.rows.row-index no_row c.rows-test.true c.rows.invariant.so_far (λ more.
    (let yes : c.is_above.result ≡ true = c.is_above.ensures.1 (subst (λ (b : Rows). Rise (b ++ one)) (sym c.deref.ensures.value) more) in
    let bad : true ≡ false = sym yes ∙ c.if-not-is_above.true in
    cc)) rise
