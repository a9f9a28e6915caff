use Rattle.std.proofs.Common.{◌≡◌, true, false, refl, arith, []}
use Rattle.transactions.proofs.StandingLemmas.{none_some}
use Rattle.tc_world.specs.Examples.{empty_world}
use Rattle.tc_world.proofs.AheadLemmas.{living_whole}
use Rattle.tc_world.proofs.ExampleLemmas.{empty_lived}
use Rattle.succession.proofs.ExampleLemmas.{first_written, all_at_once, all_once_more}
use Rattle.succession.proofs.SideLemmas.{left_among}
use Rattle.succession.proofs.MoreLemmas.{all_among}
use Rattle.succession.proofs.examples.former_ones.Goals as goal

pub returns-clause-at_once : goal.returns-clause-at_once
returns-clause-at_once c p w = (w, w, refl, refl, (refl, refl))

pub returns-clause-twice : goal.returns-clause-twice
returns-clause-twice c p w = (p, _, (refl, refl), (_, _, refl, refl, (_, _, refl, refl, (refl, refl))))

pub returns-clause-begun : goal.returns-clause-begun
returns-clause-begun c n rows ops = living_whole (empty_world n rows ops) (empty_lived n rows ops)

pub returns-clause-unwritten : goal.returns-clause-unwritten
returns-clause-unwritten c p w v x late xs on over = (let few = (first_written p w v x late xs on).number in omega (arith, few, over))

pub returns-clause-unanswered : goal.returns-clause-unanswered
returns-clause-unanswered c p w v x late xs on over = (let few = (first_written p w v x late xs on).mark in omega (arith, few, over))

pub returns-clause-performed : goal.returns-clause-performed
returns-clause-performed c p w v place xs (own, mid, lives, ready, noted, rest) = (let bad : false ≡ true = own in cc)

pub returns-clause-beside : goal.returns-clause-beside
returns-clause-beside c w lived = (w, refl, all_among w.copies, all_at_once w lived, (left_among w.copies [], (refl, refl)))

pub returns-clause-beside_twice : goal.returns-clause-beside_twice
returns-clause-beside_twice c w lived =
    (w, refl, all_among w.copies, all_at_once w lived, (left_among w.copies [], (_, refl, all_among _, all_once_more w lived, (refl, refl))))

pub returns-clause-strange : goal.returns-clause-strange
returns-clause-strange c w v x xs late more (wires, rest) = (let there = wires 0 x refl in none_some _ x refl there.1)
