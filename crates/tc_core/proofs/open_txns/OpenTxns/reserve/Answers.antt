use Rattle.std.proofs.Common.{◌<◌, refl, ◌∙◌, ap, arith, map}
use Rattle.std.specs.Prelude.{OnOk, Ok, Err, vec_len}
use Rattle.slab.specs.Slab.{Slab, HasRoomFor}
use Rattle.tc_core.specs.Joining.Boxes.{ready, in_box, unboxed}
use Rattle.tc_core.specs.declared.transaction.Tx.{Tx}
use Rattle.tc_core.proofs.KeyLemmas.{keys-room}
use Rattle.tc_core.proofs.BoxLemmas.{ready-one, unboxed-len}
use Rattle.tc_core.proofs.open_txns.OpenTxns.reserve.Goals as goal

pub invariant_of-self : goal.invariant_of-self
invariant_of-self c = (
  keys-room c.self.inside.keys c.reserve.new.self _ _ c.self.invariant.0 c.reserve.ensures.entries refl,
  c.self.invariant.1,
)

pub invariant_of-self-2 : goal.invariant_of-self-2
invariant_of-self-2 c = (
  keys-room c.self.inside.keys c.reserve.new.self _ _ c.self.invariant.0 c.reserve.ensures.entries (ap (map in_box) c.add_box.ensures.slots),
  c.add_box.ensures.boxed,
)

pub returns-clause-slots : goal.returns-clause-slots
returns-clause-slots c = ap (map in_box) c.add_box.ensures.slots ∙ ap (λ (s : Slab Tx). s.slots) c.self.view_is

pub returns-clause-room : goal.returns-clause-room
returns-clause-room c =
    let boxes = vec_len c.add_box.new.boxes in
    let room = c.reserve.new.self.room in
    let txns = c.add_box.new.txns in
    (elim c.add_box.result as (λ r. OnOk r (0 < boxes) → OnOk r (HasRoomFor (unboxed (ready boxes room) txns) 1)) [
      | Ok _ ↦ λ some. (let one = ready-one boxes room (omega (arith, some)) c.in_ok-reserve.ensures.room in
          let len = unboxed-len (ready boxes room) txns in omega (arith, one, len))
      | Err e ↦ λ some. tt
    ])
    c.add_box.ensures.some
