use Rattle.std.proofs.Common.{◌∙◌, ◌++◌, ap, List, ℕ}
use Rattle.std.specs.Prelude.{codes, decimal, string_bytes}
use Rattle.report_texts.specs.FaultNames.{violation_name}
use Rattle.script_loading.specs.Loading.{place_name}
use Rattle.script_loading.proofs.loading.unverified_report.Goals as goal

pub returns-clause-lines : goal.returns-clause-lines
returns-clause-lines c =
    c.in_ok-format.ensures.ok
    ∙ ap (λ (v : List ℕ). codes "refused " ++ (string_bytes c.in_ok-place.place ++ (codes " F7 Verify " ++ (v ++ (codes " slot "
    ++ (decimal c.args.slot ++ (string_bytes c.in_ok-behind.behind ++ codes "\n")))))))
    c.violation_name-violation.ensures
    ∙ ap (λ (place : List ℕ). codes "refused " ++ (place ++ (codes " F7 Verify " ++ (violation_name c.args.violation ++ (codes " slot "
    ++ (decimal c.args.slot ++ (string_bytes c.in_ok-behind.behind ++ codes "\n")))))))
    c.in_ok-place.ensures
    ∙ ap (λ (behind : List ℕ). codes "refused " ++ (place_name c.args.line c.args.name.now ++ (codes " F7 Verify "
    ++ (violation_name c.args.violation ++ (codes " slot " ++ (decimal c.args.slot ++ (behind ++ codes "\n")))))))
    c.in_ok-behind.ensures
