use Rattle.tc_world.specs.Ahead.{all_written}
use Rattle.tc_world.specs.Examples.{empty_world}
use Rattle.tc_world.proofs.AheadLemmas.{living_whole, told_may_crash}
use Rattle.tc_world.proofs.ExampleLemmas.{empty_lived, upped_written}
use Rattle.tc_world.proofs.examples.crashes.Goals as goal

pub returns-clause-may : goal.returns-clause-may
returns-clause-may c n rows ops =
    told_may_crash (all_written (empty_world n rows ops)) (empty_world n rows ops) (living_whole (empty_world n rows ops) (empty_lived n rows ops))

pub returns-clause-not_yet : goal.returns-clause-not_yet
returns-clause-not_yet c rows ops = upped_written rows ops
