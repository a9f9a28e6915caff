use Rattle.std.proofs.Common.{◌∙◌, ◌++◌, ap, List, ℕ}
use Rattle.std.specs.Prelude.{codes, string_bytes}
use Rattle.report_texts.specs.FaultNames.{fault_name}
use Rattle.object_procedures.proofs.given.code_refusal.Goals as goal

pub returns-clause-lines : goal.returns-clause-lines
returns-clause-lines c =
    c.in_ok-format.ensures.ok
    ∙ ap (λ (fault : List ℕ). codes "refused object " ++ (c.args.name.now ++ (codes " " ++ (fault ++ (string_bytes c.in_ok-place.place ++ codes "\n")))))
    c.in_ok-fault.ensures
    ∙ ap (λ (place : List ℕ). codes "refused object " ++ (c.args.name.now ++ (codes " " ++ (fault_name c.args.fault.now ++ (place ++ codes "\n")))))
    c.in_ok-place.ensures
