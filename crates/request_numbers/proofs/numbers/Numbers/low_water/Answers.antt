use Rattle.std.proofs.Common.{ap, sym, subst, ◌∙◌}
use Rattle.request_numbers.specs.Given.{Given, low_water_of}
use Rattle.request_numbers.specs.LowWater.{IsLowWater}
use Rattle.request_numbers.proofs.Closing.{low_at, low_there, low_greatest}
use Rattle.request_numbers.proofs.numbers.Numbers.low_water.Goals as goal

pub returns-in-Some-clause-value : goal.returns-in-Some-clause-value
returns-in-Some-clause-value c =
    let last = c.self.inside.last in
    c.saturating_sub.ensures
    ∙ sym (ap (low_at last) c.in-Some.is)
    ∙ low_there last c.self.inside.places.items _ _ _ c.as_slice.ensures.value c.self.invariant.1.first c.place_at.ensures
    ∙ ap (λ (g : Given). low_water_of g.last g.pending) c.self.view_is

pub returns-in-Some-clause-greatest : goal.returns-in-Some-clause-greatest
returns-in-Some-clause-greatest c =
    let last = c.self.inside.last in
    let is = c.saturating_sub.ensures ∙ sym (ap (low_at last) c.in-Some.is)
    ∙ low_there last c.self.inside.places.items _ _ _ c.as_slice.ensures.value c.self.invariant.1.first c.place_at.ensures in
    subst (λ (g : Given). IsLowWater g.last g.pending c.saturating_sub.result) c.self.view_is (low_greatest last c.self.inside.places.items _ c.self.invariant.1.rising is)

pub returns-in-None-clause-value : goal.returns-in-None-clause-value
returns-in-None-clause-value c =
    let last = c.self.inside.last in
    sym (ap (low_at last) c.in-None.is)
    ∙ low_there last c.self.inside.places.items _ _ _ c.as_slice.ensures.value c.self.invariant.1.first c.place_at.ensures
    ∙ ap (λ (g : Given). low_water_of g.last g.pending) c.self.view_is

pub returns-in-None-clause-greatest : goal.returns-in-None-clause-greatest
returns-in-None-clause-greatest c =
    let last = c.self.inside.last in
    let is = sym (ap (low_at last) c.in-None.is)
    ∙ low_there last c.self.inside.places.items _ _ _ c.as_slice.ensures.value c.self.invariant.1.first c.place_at.ensures in
    subst (λ (g : Given). IsLowWater g.last g.pending last) c.self.view_is (low_greatest last c.self.inside.places.items _ c.self.invariant.1.rising is)
