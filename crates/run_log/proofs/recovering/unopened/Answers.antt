use Rattle.std.proofs.Common.{◌∙◌, ap}
use Rattle.std.specs.Prelude.{string_bytes}
use Rattle.run_log.specs.Recovering.{NotAFile}
use Rattle.run_log.proofs.recovering.unopened.Goals as goal

pub returns-in_ok-kind_refusal-in-Kind : goal.returns-in_ok-kind_refusal-in-Kind
returns-in_ok-kind_refusal-in-Kind c = λ start empties.
    (NotAFile c.in-Kind.kind (ap string_bytes c.refusal-in-Kind.ensures.1 ∙ c.in_ok-kind_refusal-in-Kind.ensures), c.refusal-in-Kind.ensures.0)
