use Rattle.std.proofs.Common.{◌≡◌, ◌<◌, List, None, length, ap, sym, subst, ◌∙◌}
use Rattle.access_slots.specs.Declaration.{first_bad}
use Rattle.access_slots.specs.declared.slot.Slot.{Slot}
use Rattle.access_slots.proofs.Locking.{named_with, declared}
use Rattle.access_slots.proofs.decl.Decl.record.Goals as goal

pub record-requires : goal.record-requires
record-requires c =
    let self = c.args.self.now in
    let items = c.slots.result.now in
    let good = (declared self.args self.slots c.slots.ensures.declared).1 in
    let here : first_bad self.args 0 items ≡ None = ap (first_bad self.args 0) c.slots.ensures.value ∙ good in
    let lt : c.args.slot < length items = subst (λ (xs : List Slot). c.args.slot < length xs) (sym c.slots.ensures.value) c.requires.within in
    named_with (length c.args.args.now) self.args items c.args.slot _ c.requires.count here lt
