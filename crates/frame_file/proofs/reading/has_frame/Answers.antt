use Rattle.std.proofs.Common.{arith}
use Rattle.frame_file.proofs.Readings.{none_in}
use Rattle.frame_file.proofs.reading.has_frame.Goals as goal

pub places-init : goal.places-init
places-init c = record { none = λ at before. absurd (omega (arith, before)); of = c.new-sums.ensures c.args.bytes.now }

pub returns-clause-none : goal.returns-clause-none
returns-clause-none c = λ no. none_in c.args.number c.args.bytes.now (c.begins_frame.ensures.none c.if-begins_frame.false)
    (λ at inside. c.places.invariant.none at (omega (arith, inside, c.places-test.false)))
