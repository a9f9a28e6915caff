use Rattle.std.proofs.Common.{◌≡◌, ◌-◌, ◌+◌, ◌*◌, ◌++◌, length}
use Rattle.tc_log.specs.Reading.{numbers_in, AreNumbers}
use Rattle.tc_log.proofs.read.numbers_in.Given as goal

abbrev pub invariant-numbers : goal.invariant-numbers
invariant-numbers l = record {
  so_far : l.numbers.items ++ numbers_in (l.count - l.counter) l.rest ≡ numbers_in l.count l.body;
  machine : AreNumbers l.numbers.items;
  left : length l.rest + 8 * l.counter ≡ 64;
}
