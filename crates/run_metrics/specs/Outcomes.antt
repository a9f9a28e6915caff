-- How calls came out.
use Rattle.std.specs.Prelude.{ℕ, List, codes}
use Rattle.run_metrics.specs.declared.outcome.Outcome.{Outcome}
use Rattle.run_metrics.specs.declared.outcome.Outcome.TheVariants.{Committed, Aborted, InDoubt, Blocked, Refused}

abbrev pub outcome_name : Outcome → List ℕ
outcome_name Committed = codes "committed"
outcome_name Aborted = codes "aborted"
outcome_name InDoubt = codes "in_doubt"
outcome_name Blocked = codes "blocked"
outcome_name Refused = codes "refused"
