use Rattle.std.proofs.Common.{arith, List, length, ap, sym, subst, ◌∙◌}
use Rattle.request_numbers.specs.declared.numbers.Place.{Place}
use Rattle.request_numbers.specs.Given.{Rising}
use Rattle.request_numbers.specs.Places.{numbers_of, open_of, first_open}
use Rattle.request_numbers.proofs.Closing.{none_open, open_few, open_left, numbers_left, first_left, left_length, open_rising}
use Rattle.request_numbers.proofs.numbers.settled.Goals as goal

pub returns-then-pending-eq0-clause-open : goal.returns-then-pending-eq0-clause-open
returns-then-pending-eq0-clause-open c =
    ap open_of c.clear.ensures.items ∙ none_open (open_of c.args.places.now.items) (sym c.requires.pending ∙ c.if-pending-eq0.true)

pub overflow_sub-closed : goal.overflow_sub-closed
overflow_sub-closed c = omega (arith, open_few c.args.places.now.items, c.requires.pending, c.len.ensures, c.args.places.now.ok.0)

pub returns-then-closed-pending-clause-open : goal.returns-then-closed-pending-clause-open
returns-then-closed-pending-clause-open c = ap open_of c.leave_open.ensures.items ∙ open_left c.args.places.now.items

pub returns-then-closed-pending-clause-rising : goal.returns-then-closed-pending-clause-rising
returns-then-closed-pending-clause-rising c last rises =
    subst (Rising 0 last) (sym (ap numbers_of c.leave_open.ensures.items ∙ numbers_left c.args.places.now.items)) (open_rising 0 last c.args.places.now.items rises)

pub returns-then-closed-pending-clause-first : goal.returns-then-closed-pending-clause-first
returns-then-closed-pending-clause-first c = sym (ap first_open c.leave_open.ensures.items ∙ first_left c.args.places.now.items)

pub returns-then-closed-pending-clause-half : goal.returns-then-closed-pending-clause-half
returns-then-closed-pending-clause-half c =
    let few = ap (λ (ps : List Place). length ps) c.leave_open.ensures.items ∙ left_length c.args.places.now.items in
    omega (arith, few, c.requires.pending)
