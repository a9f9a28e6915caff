use Rattle.std.proofs.Common.{◌<◌, ℕ}
use Rattle.base_records.specs.Beginning.{IsCrowded}
use Rattle.base_records.proofs.beginning.first_crowded.Given as goal

abbrev pub invariant-dcs : goal.invariant-dcs
invariant-dcs l = (k : ℕ) → k < l.number → IsCrowded l.base l.dcs k → ⊥
