use Rattle.std.proofs.Common.{None, arith, subst}
use Rattle.std.specs.Prelude.{vec_len}
use Rattle.tc_core.specs.Joining.Boxes.{ready}
use Rattle.tc_core.specs.Joining.Keys.{Changes}
use Rattle.tc_core.specs.declared.transaction.Tx.{Tx}
use Rattle.tc_core.proofs.KeyLemmas.{keys-ended}
use Rattle.tc_core.proofs.BoxLemmas.{has-box, seen-len, seen-updates, unboxed-len, unboxed-some, unboxed-updates}
use Rattle.tc_core.proofs.open_txns.OpenTxns.remove.Goals as goal

pub remove-tx-requires : goal.remove-tx-requires
remove-tx-requires c = has-box _ c.self.inside.txns c.args.self.now c.self.view_is c.args.key c.requires

pub push_reserved-requires : goal.push_reserved-requires
push_reserved-requires c =
    let end = c.self.invariant.1.end in
    let len = c.remove-tx.ensures.len in
    omega (arith, end, len)

pub invariant_of-self : goal.invariant_of-self
invariant_of-self c =
    let begin = c.self.invariant.1.begin in
    let end = c.self.invariant.1.end in
    let len = c.remove-tx.ensures.len in
    let capacity = c.remove-tx.ensures.capacity in
    let more = c.push_reserved.ensures.len in
    let same = c.push_reserved.ensures.capacity in (
      keys-ended c.self.inside.keys c.take_out.new.self _ _ c.args.key c.remove-tx.result.value c.self.invariant.0
          (unboxed-some (ready (vec_len c.self.inside.boxes)
          c.self.inside.keys.room) c.self.inside.txns c.args.key c.remove-tx.result c.remove-tx.ensures.value)
          (unboxed-updates (ready (vec_len c.self.inside.boxes) c.self.inside.keys.room)
          (ready (vec_len c.push_reserved.new.self)
          c.take_out.new.self.room) c.self.inside.txns c.remove-tx.new.self c.args.key None c.remove-tx.ensures.updates)
          (subst (λ (x : Tx). Changes c.self.inside.keys c.take_out.new.self x.serial None) c.deref.ensures c.take_out.ensures),
      record { begin = omega (arith, begin, len, capacity, more); end = omega (arith, end, len, more, same) },
    )

pub returns-clause-updates : goal.returns-clause-updates
returns-clause-updates c = seen-updates _ c.self.inside.txns c.args.self.now c.self.view_is _ c.remove-tx.new.self c.args.key None c.remove-tx.ensures.updates

pub returns-clause-len : goal.returns-clause-len
returns-clause-len c =
    let len = c.remove-tx.ensures.len in
    let old = seen-len (ready (vec_len c.self.inside.boxes) c.self.inside.keys.room) c.self.inside.txns c.args.self.now c.self.view_is in
    let new = unboxed-len (ready (vec_len c.push_reserved.new.self) c.take_out.new.self.room) c.remove-tx.new.self in
    omega (arith, len, old, new)
