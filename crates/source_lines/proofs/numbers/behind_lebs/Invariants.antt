use Rattle.std.proofs.Common.{◌≡◌, ◌-◌}
use Rattle.source_lines.specs.Numbers.{behind_lebs}
use Rattle.source_lines.proofs.numbers.behind_lebs.Given as goal

abbrev pub invariant-numbers : goal.invariant-numbers
invariant-numbers l = behind_lebs (l.count - l.counter) l.rest ≡ behind_lebs l.count l.bytes
