use Rattle.std.proofs.Common.{◌∙◌, ◌++◌, ap, List, ℕ}
use Rattle.std.specs.Prelude.{codes, decimal}
use Rattle.report_texts.proofs.script_refusal.refusal.Goals as goal

pub returns-clause-lines : goal.returns-clause-lines
returns-clause-lines c =
    c.in_ok-format.ensures.ok ∙ ap (λ (name : List ℕ). codes "refused line " ++ (decimal c.args.fault.line ++ (codes " " ++ (name ++ codes "\n")))) c.in_ok-name.ensures
