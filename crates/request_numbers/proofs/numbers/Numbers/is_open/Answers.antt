use Rattle.std.proofs.Common.{◌&&◌, Bool, ap, sym, ◌∙◌}
use Rattle.std.specs.Prelude.{Option}
use Rattle.std.proofs.lemmas.Bool.{eq-eqb, ne_eqb}
use Rattle.request_numbers.specs.declared.numbers.Place.{Place}
use Rattle.request_numbers.specs.Given.{Given, holds}
use Rattle.request_numbers.specs.Places.{is_open_at}
use Rattle.request_numbers.proofs.Closing.{open_there}
use Rattle.request_numbers.proofs.numbers.Numbers.is_open.Goals as goal

pub returns-then-place-number : goal.returns-then-place-number
returns-then-place-number c =
    let k = c.args.number in
    sym (ap (λ (b : Bool). b && c.in-Some.place.is_open) (eq-eqb c.in-Some.place.number k c.if-place-number.true))
    ∙ sym (ap (λ (o : Option Place). is_open_at o k) c.in-Some.is)
    ∙ open_there k c.self.inside.last c.self.inside.places.items _ _ c.place_of-at.result _ c.place_of-at.ensures c.as_slice.ensures.value c.as_slice-2.ensures.value
    c.place_at.ensures c.self.invariant.1.rising
    ∙ ap (λ (g : Given). holds k g.pending) c.self.view_is

pub returns-else-place-number : goal.returns-else-place-number
returns-else-place-number c =
    let k = c.args.number in
    let other = ne_eqb c.in-Some.place.number k c.if-place-number.false in
    other
    ∙ sym (ap (λ (b : Bool). b && c.in-Some.place.is_open) other)
    ∙ sym (ap (λ (o : Option Place). is_open_at o k) c.in-Some.is)
    ∙ open_there k c.self.inside.last c.self.inside.places.items _ _ c.place_of-at.result _ c.place_of-at.ensures c.as_slice.ensures.value c.as_slice-2.ensures.value
    c.place_at.ensures c.self.invariant.1.rising
    ∙ ap (λ (g : Given). holds k g.pending) c.self.view_is

pub returns-in-None : goal.returns-in-None
returns-in-None c =
    let k = c.args.number in
    sym (ap (λ (o : Option Place). is_open_at o k) c.in-None.is)
    ∙ open_there k c.self.inside.last c.self.inside.places.items _ _ c.place_of-at.result _ c.place_of-at.ensures c.as_slice.ensures.value c.as_slice-2.ensures.value
    c.place_at.ensures c.self.invariant.1.rising
    ∙ ap (λ (g : Given). holds k g.pending) c.self.view_is
