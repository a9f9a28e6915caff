use Rattle.std.proofs.Common.{◌≡◌}
use Rattle.tc_log.specs.Heads.{value_at}
use Rattle.tc_log.proofs.heads.value_at.Given as goal

abbrev pub invariant-words : goal.invariant-words
invariant-words l = l.value ≡ value_at l.words l.place l.at
