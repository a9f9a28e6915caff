-- The arguments of a call as a list, in place or in a vector.
use Rattle.std.specs.Prelude.{ℕ, List}
use Rattle.tc_log.specs.declared.event.Numbers.{Numbers}
use Rattle.tc_log.specs.declared.event.Numbers.TheVariants.{Few, Many}

abbrev pub listed : Numbers → List ℕ
listed (Few numbers) = numbers.items
listed (Many numbers) = numbers
