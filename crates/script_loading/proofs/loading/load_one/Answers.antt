use Rattle.std.proofs.Common.{◌∙◌, ap, ap₂, subst, sym, ℕ, List, Some, option_map}
use Rattle.script_loading.specs.Loading.{unverified_by, unverified_line}
use Rattle.verifier.specs.Verdict.{verdict, IsVerdict}
use Rattle.script_loading.proofs.loading.load_one.Goals as goal

pub returns-in_ok-report-in-Err-At-clause-err : goal.returns-in_ok-report-in-Err-At-clause-err
returns-in_ok-report-in-Err-At-clause-err c =
    let p = c.args.procedure.now in
    let object = option_map (λ file. file.now) c.args.object in
    let at = c.in-Err-At in
    let found = subst (IsVerdict c.decl_again-decl.result c.in_ok-code.code) at.field-0-is at.ensures.err in (
      ap (unverified_by object p) (ap₂ verdict (sym c.decl_again-decl.ensures) (sym c.in_ok-code.ensures) ∙ found)
          ∙ ap (λ (name : List ℕ). Some (unverified_line object p.line name at.slot at.violation)) (sym c.as_str-name.ensures)
          ∙ ap (λ (line : List ℕ). Some line) (sym c.in_ok-report-in-Err-At.ensures.lines),
      c.in_ok-report-in-Err-At.ensures.status,
    )
