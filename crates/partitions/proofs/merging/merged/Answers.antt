use Rattle.std.proofs.Common.{arith, ◌≡◌, ◌∙◌, ◌<◌, ◌+◌, length, get_or, Some, ap, refl, sym, [], ◌∷◌, length-append}
use Rattle.std.specs.Prelude.{slice_get}
use Rattle.std.proofs.lemmas.Grind.{get_or_default_zero}
use Rattle.std.proofs.lemmas.List.{length-set}
use Rattle.std.proofs.lemmas.Option.{slice_get-get_or}
use Rattle.partitions.proofs.Picks.{next_there, counted_more, own_more, all_merged}
use Rattle.partitions.proofs.merging.merged.Goals as goal

pub index-requires : goal.index-requires
index-requires g c =
    let l = c.loop-number in
    let numbers = c.args.numbers.now in
    let parts = c.args.parts.now in
    let n = get_or numbers l.number-index 0 in
    let part = c.index-parts-number.result in
    let within : n < length parts = c.requires.within l.number-index 0 c.loop-number-test.true in
    let at : slice_get parts n ≡ Some part = slice_get-get_or parts n part within ∙ ap Some (sym c.index-parts-number.is) in
    let there = next_there numbers parts l.number-index n part c.requires c.loop-number-test.true refl at in
    let place = c.index-place.ensures ∙ get_or_default_zero l.taken.items n c.index-place.result.now (omega (arith, within, l.invariant.as_many)) in
    omega (arith, place, l.invariant.counted n within, there, part.ok.0)

pub overflow_add-place : goal.overflow_add-place
overflow_add-place g c =
    let l = c.loop-number in
    let numbers = c.args.numbers.now in
    let parts = c.args.parts.now in
    let n = get_or numbers l.number-index 0 in
    let part = c.index-parts-number.result in
    let within : n < length parts = c.requires.within l.number-index 0 c.loop-number-test.true in
    let at : slice_get parts n ≡ Some part = slice_get-get_or parts n part within ∙ ap Some (sym c.index-parts-number.is) in
    let there = next_there numbers parts l.number-index n part c.requires c.loop-number-test.true refl at in
    let place = c.index-place.ensures ∙ get_or_default_zero l.taken.items n c.index-place.result.now (omega (arith, within, l.invariant.as_many)) in
    omega (arith, place, l.invariant.counted n within, there, part.ok.0, part.ok.1, part.small)

pub loop-number-preserved : goal.loop-number-preserved
loop-number-preserved g c =
    let l = c.loop-number in
    let k = l.number-index in
    let numbers = c.args.numbers.now in
    let parts = c.args.parts.now in
    let n = get_or numbers k 0 in
    let part = c.index-parts-number.result in
    let place = c.index-place.result.now in
    let within : n < length parts = c.requires.within k 0 c.loop-number-test.true in
    let at : slice_get parts n ≡ Some part = slice_get-get_or parts n part within ∙ ap Some (sym c.index-parts-number.is) in
    let place_is : place ≡ get_or l.taken.items n 0 =
    c.index-place.ensures ∙ get_or_default_zero l.taken.items n place (omega (arith, within, l.invariant.as_many)) in
    let more = c.in_ok-push.ensures.items in
    record {
      as_many = length-set l.taken.items n (place + 1) ∙ l.invariant.as_many;
      each = rw more (omega (arith, l.invariant.each, length-append l.all.items (c.index.result.now ∷ [])));
      counted = counted_more numbers parts k n part c.requires c.loop-number-test.true refl at l.taken.items l.invariant.as_many place place_is l.invariant.counted;
      own = λ p part' there. rw more (own_more numbers parts k n part c.requires c.loop-number-test.true refl at l.taken.items l.invariant.as_many place
          place_is l.invariant.counted l.all.items c.index.result.now l.invariant.each c.index.ensures l.invariant.own p part' there);
    }

pub returns : goal.returns
returns g c =
    let l = c.loop-number in
    all_merged c.args.numbers.now c.args.parts.now l.number-index l.taken.items l.all.items c.requires c.loop-number-test.false l.invariant.each
    l.auto.number-index-end l.invariant.counted l.invariant.own
