use Rattle.std.proofs.Common.{◌≡◌, ℕ, ◌+◌, List, false, refl, sym, ◌∙◌, ap, subst}
use Rattle.std.specs.Prelude.{Result, Ok}
use Rattle.access_slots.specs.declared.op.Wire.{Wire}
use Rattle.history.specs.Flight.{given, open_numbers, low_water}
use Rattle.request_numbers.specs.LowWater.{IsLowWater}
use Rattle.history.proofs.Laws.{mark_is_low_water, low_water_is}
use Rattle.transactions.specs.declared.Site.{Site}
use Rattle.transactions.specs.InFlight.{site_of}
use Rattle.tc_core.specs.Core.{Core, Asking}
use Rattle.tc_core.specs.Kept.{core_of}
use Rattle.tc_core.specs.Lent.{wire_for, wire_by}
use Rattle.tc_core.specs.declared.state.Down.{Down}
use Rattle.tc_core.proofs.book.Book.next_wire.Goals as goal

pub returns-in-None-clause-sent : goal.returns-in-None-clause-sent
returns-in-None-clause-sent c = λ p t.
    let b = c.args.self.now in
    let h = b.log.events in
    let core : Core = core_of p b in
    let asking : Asking = record { txn = t; number = c.last.result + 1; op = c.in-Asks.op.now } in
    let here = site_of core.sites asking.op in
    let same : c.site_of-site.result ≡ here = c.site_of-site.ensures ∙ ap (λ (ss : List Site). site_of ss asking.op) c.as_slice.ensures.value in
    let kept = c.requires.book.1.kept in
    let mark_kept : IsLowWater (given h) (open_numbers h) c.low_water.result =
    subst (λ (ns : List ℕ). IsLowWater (given h) ns c.low_water.result) kept.pending_is
    (subst (λ (n : ℕ). IsLowWater n b.numbers.pending c.low_water.result) kept.last_is c.low_water.ensures.greatest) in
    let mark : c.low_water.result ≡ low_water h = low_water_is h c.low_water.result (mark_is_low_water h c.low_water.result mark_kept) in
    let incarnation = ap (λ (s : Site). s.incarnation) same in
    let wire : Wire = record {
      number = asking.number;
      low_water = c.low_water.result;
      incarnation = c.site_of-site.result.incarnation;
      redo = false;
      op = asking.op;
    } in
    let made : wire ≡ wire_for core asking here.incarnation = rw (mark, incarnation) refl in
    let up : wire_by core asking here.incarnation here.redo ≡ Ok (wire_for core asking here.incarnation)
    = ap (wire_by core asking here.incarnation) (sym (ap (λ (s : Site). s.redo) same) ∙ c.in-None.is) in
    up ∙ sym (ap (λ (w : Wire). let r : Result Wire Down = Ok w in r) made)
