use Rattle.std.proofs.Common.{◌∙◌, ap}
use Rattle.std.specs.Prelude.{string_bytes}
use Rattle.run_log.specs.Recovering.{Crowded}
use Rattle.run_log.proofs.recovering.if_upgraded.Goals as goal

pub returns-in_ok-base_fault_line-in-Unfit : goal.returns-in_ok-base_fault_line-in-Unfit
returns-in_ok-base_fault_line-in-Unfit g c =
    let unfit = rw c.in-Unfit.is at c.in_ok-opened.ensures in (
      Crowded unfit.0 unfit.1 c.in-Unfit.fault unfit.2 unfit.3
          (ap string_bytes c.refusal.ensures.1 ∙ c.in_ok-base_fault_line-in-Unfit.ensures),
      c.refusal.ensures.0,
    )
