use Rattle.std.proofs.Common.{arith}
use Rattle.request_numbers.proofs.Closing.{first_goes, first_stops, first_within}
use Rattle.request_numbers.proofs.numbers.first_open.Goals as goal

pub loop-first-preserved : goal.loop-first-preserved
loop-first-preserved c =
    first_goes c.args.places.now c.loop-first.first _ c.loop-first-test.true c.loop-first.invariant c.if-not-places-first.true

pub returns-else-not-places-first : goal.returns-else-not-places-first
returns-else-not-places-first c =
    let before = first_stops c.args.places.now c.loop-first.first _ c.loop-first-test.true c.if-not-places-first.false in
    omega (arith, before, c.loop-first.invariant)

pub returns-after-loop-first : goal.returns-after-loop-first
returns-after-loop-first c = omega (arith, first_within c.args.places.now, c.loop-first.invariant)
