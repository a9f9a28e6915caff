use Rattle.std.proofs.Common.{rules, ◌≡◌, List, Some, ap, sym, ◌∙◌}
use Rattle.std.specs.Prelude.{slice_get}
use Rattle.std.proofs.lemmas.Option.{slice_get-get_or}
use Rattle.access_slots.specs.declared.slot.Slot.{Slot}
use Rattle.register_kinds.specs.Calls.{called_at, called_slot}
use Rattle.register_kinds.specs.Effects.{result_by}
use Rattle.register_kinds.proofs.effect.called_slot.Goals as goal

pub returns-in-Some : goal.returns-in-Some
returns-in-Some c =
    let look = c.in-Some.ensures.lookup in
    let slot : Slot = c.in-Some.declared.now in
    let here : slice_get c.slots.result.now c.args.slot ≡ Some slot = slice_get-get_or c.slots.result.now c.args.slot slot look.3.0 ∙ ap (λ (x : Slot). Some x) (sym (look.3.1 slot)) in
    let there : slice_get c.args.decl.now.slots c.args.slot ≡ Some slot = ap (λ (xs : List Slot). slice_get xs c.args.slot) (sym c.slots.ensures.value) ∙ here in
    let by : result_by c.args.kinds.now c.called_at.result ≡ called_at c.args.kinds.now c.args.helper c.args.slot slot.mode = search rules in
    by ∙ ap (called_slot c.args.kinds.now c.args.helper c.args.slot) (sym there)
