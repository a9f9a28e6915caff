use Rattle.std.proofs.Common.{◌≡◌, ◌+◌, arith, sym, ap}
use Rattle.std.specs.Prelude.{vec_len}
use Rattle.slab.specs.Slab.{Slab, slab_len}
use Rattle.tc_core.specs.Joining.Boxes.{ready}
use Rattle.tc_core.specs.declared.transaction.Tx.{Tx}
use Rattle.tc_core.proofs.BoxLemmas.{ready-few}
use Rattle.tc_core.proofs.open_txns.OpenTxns.capacity.Goals as goal

pub returns : goal.returns
returns c =
    let few = ready-few (vec_len c.self.inside.boxes) c.self.inside.keys.room in
    let seen : c.args.self.now.capacity ≡ slab_len c.self.inside.txns + ready (vec_len c.self.inside.boxes)
    c.self.inside.keys.room = ap (λ (s : Slab Tx). s.capacity) (sym c.self.view_is) in
    let begin = c.self.invariant.1.begin in
    let value = c.capacity.ensures.value in
    omega (arith, few, seen, begin, value)
