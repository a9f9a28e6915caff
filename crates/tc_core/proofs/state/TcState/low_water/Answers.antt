use Rattle.std.proofs.Common.{ℕ, List, ◌∙◌, ap, subst}
use Rattle.history.specs.Flight.{given, open_numbers, low_water}
use Rattle.request_numbers.specs.LowWater.{IsLowWater}
use Rattle.history.proofs.Laws.{mark_is_low_water, low_water_is}
use Rattle.tc_core.specs.Core.{Core}
use Rattle.tc_core.proofs.state.TcState.low_water.Goals as goal

pub returns : goal.returns
returns c =
    let h = c.self.inside.book.log.events in
    let kept : IsLowWater (given h) (open_numbers h) c.low_water.result =
    subst (λ (ns : List ℕ). IsLowWater (given h) ns c.low_water.result) c.self.invariant.0.kept.pending_is
    (subst (λ (n : ℕ). IsLowWater n c.self.inside.book.numbers.pending c.low_water.result) c.self.invariant.0.kept.last_is c.low_water.ensures.greatest) in
    low_water_is h c.low_water.result (mark_is_low_water h c.low_water.result kept) ∙ ap (λ (x : Core). low_water x.events) c.self.view_is
