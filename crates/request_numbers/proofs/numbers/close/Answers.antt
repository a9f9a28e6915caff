use Rattle.std.proofs.Common.{arith}
use Rattle.request_numbers.proofs.Closing.{number_place, closes, same_numbers, first_not_before}
use Rattle.request_numbers.proofs.numbers.close.Goals as goal

pub index_mut-requires : goal.index_mut-requires
index_mut-requires c =
    let there = number_place c.args.number c.requires.rising.0 c.args.places.now.items c.as_slice.result.now c.place_of-at.result c.place_of-at.ensures c.as_slice.ensures.value
    c.requires.rising.1 c.requires.open in
    omega (arith, there.inside, c.args.places.now.ok.0)

pub returns-clause-open : goal.returns-clause-open
returns-clause-open c =
    let there = number_place c.args.number c.requires.rising.0 c.args.places.now.items c.as_slice.result.now c.place_of-at.result c.place_of-at.ensures c.as_slice.ensures.value
    c.requires.rising.1 c.requires.open in
    closes c.args.number c.requires.rising.0 c.args.places.now.items c.place_of-at.result _ c.index_mut.ensures.value there c.requires.rising.1

pub returns-clause-numbers : goal.returns-clause-numbers
returns-clause-numbers c = same_numbers c.args.number 0 c.args.places.now.items c.place_of-at.result _ c.index_mut.ensures.value

pub returns-clause-first : goal.returns-clause-first
returns-clause-first c = first_not_before c.args.number 0 c.args.places.now.items c.place_of-at.result _ c.index_mut.ensures.value
