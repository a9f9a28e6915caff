use Rattle.std.proofs.Common.{rules, ◌≡◌}
use Rattle.std.specs.Prelude.{◌==◌, false}
use Rattle.source_lines.proofs.FileLoops.{path_on, path_cut}
use Rattle.source_lines.proofs.files.path_in.Goals as goal

pub fields-preserved : goal.fields-preserved
fields-preserved c =
    let other : (c.in_ok-content.content == 1) ≡ false = search rules in
    path_on c.args.strings.now c.args.width c.fields.counter c.in_ok-content.content c.in_ok-content.form c.fields.formats.now c.in_ok-content.next.now
    c.fields.rest.now c.in_ok-rest.rest.now _ c.fields-test.true c.in_ok-content.ensures.some other c.in_ok-rest.ensures.some c.fields.invariant

pub returns-in_err-rest-clause-none : goal.returns-in_err-rest-clause-none
returns-in_err-rest-clause-none c =
    let other : (c.in_ok-content.content == 1) ≡ false = search rules in
    let cut = path_cut c.args.strings.now c.args.width c.fields.counter c.in_ok-content.content c.in_ok-content.form c.fields.formats.now
    c.in_ok-content.next.now c.fields.rest.now _ c.fields-test.true c.in_ok-content.ensures.some other c.in_err-rest.ensures.none c.fields.invariant in
    search (rules, cut)
