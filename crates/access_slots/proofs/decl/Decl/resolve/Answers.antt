use Rattle.std.proofs.Common.{arith, ◌≡◌, ◌+◌, List, None, length, take, ap, sym, subst, ◌∙◌}
use Rattle.std.specs.Prelude.{slice_index_or}
use Rattle.std.proofs.lemmas.List.{take_more}
use Rattle.access_slots.specs.Access.{record_of}
use Rattle.access_slots.specs.Declaration.{first_bad}
use Rattle.access_slots.specs.Joining.Adding.{added}
use Rattle.access_slots.specs.Locks.{AreLocksOf, Rising}
use Rattle.access_slots.specs.declared.slot.Slot.{Slot}
use Rattle.access_slots.specs.declared.slot.Record.{Record}
use Rattle.access_slots.proofs.Locking.{named_with, declared, locks_more, rising_added, one_more}
use Rattle.access_slots.proofs.decl.Decl.resolve.Goals as goal

pub record-requires : goal.record-requires
record-requires c =
    let self = c.args.self.now in
    let items = c.slots-slot-items.result.now in
    let good = (declared self.args self.slots c.slots-slot-items.ensures.declared).1 in
    let here : first_bad self.args 0 items ≡ None = ap (first_bad self.args 0) c.slots-slot-items.ensures.value ∙ good in
    named_with (length c.args.args.now) self.args items c.slots.slot-index _ c.requires here c.slots-test.true

pub slots-preserved : goal.slots-preserved
slots-preserved c =
    let args = c.args.args.now in
    let items = c.slots-slot-items.result.now in
    let i = c.slots.slot-index in
    let locks = c.slots.locks in
    let s = slice_index_or items i _ in
    let kept = c.slots.invariant in
    let new : c.add.new.self ≡ added (record_of args s) s.mode locks = c.add.ensures ∙ ap (λ (r : Record). added r s.mode locks) c.record.ensures in
    let more = take_more items i _ c.slots-test.true in (
      subst (AreLocksOf args (take (i + 1) items)) (sym new) (subst (λ (ss : List Slot). AreLocksOf args ss (added
          (record_of args s) s.mode locks)) (sym more) (locks_more args (take i items) s locks kept.0 kept.1)),
      subst Rising (sym new) (rising_added (record_of args s) s.mode locks kept.1),
      omega (arith, ap length new, one_more (record_of args s) s.mode locks, kept.2),
    )
