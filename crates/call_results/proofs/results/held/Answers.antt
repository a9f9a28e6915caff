use Rattle.std.proofs.Common.{◌<◌, List, length, arith, sym, ap}
use Rattle.access_slots.specs.Declaration.{Declaration}
use Rattle.access_slots.specs.declared.slot.Slot.{Slot}
use Rattle.call_results.proofs.Along.{buffer_there}
use Rattle.call_results.proofs.results.held.Goals as goal

pub buffer-requires-clause-declared : goal.buffer-requires-clause-declared
buffer-requires-clause-declared c =
    let code = c.in_ok-code.code.now in
    let few : c.args.run.now.slot < length code.decl.slots
    = omega (arith, c.if-run-slots.false, ap (λ (xs : List Slot). length xs) c.slots.ensures.value, ap (λ (d : Declaration). length d.slots) c.decl.ensures) in
    buffer_there c.args.procs.now.codes c.args.run.now c.requires.0 code c.requires.1 c.if-not-run.false (sym c.in_ok-code.ensures) few
