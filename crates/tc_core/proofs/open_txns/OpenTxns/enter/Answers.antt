use Rattle.std.proofs.Common.{ℕ, Some, arith, sym, subst, ◌∙◌, ap}
use Rattle.std.specs.Prelude.{vec_len}
use Rattle.slab.specs.Slab.{Slab, get}
use Rattle.tc_core.specs.declared.transaction.Tx.{Tx}
use Rattle.tc_core.proofs.KeyLemmas.{keys-entered, no-key}
use Rattle.tc_core.proofs.BoxLemmas.{room-some, seen-len, seen-vacant, seen-updates, unboxed-at, unboxed-len, unboxed-updates}
use Rattle.tc_core.specs.Joining.Boxes.{in_box, ready}
use Rattle.tc_core.specs.Joining.Keys.{Changes}
use Rattle.tc_core.proofs.open_txns.OpenTxns.enter.Goals as goal

pub take_box-tx-requires : goal.take_box-tx-requires
take_box-tx-requires c =
    let some = (room-some c.self.inside.txns c.args.self.now (vec_len c.self.inside.boxes) c.self.inside.keys.room c.self.view_is c.requires.room).0 in
    omega (arith, some)

pub insert_reserved-key-requires : goal.insert_reserved-key-requires
insert_reserved-key-requires c =
    let some = (room-some c.self.inside.txns c.args.self.now (vec_len c.self.inside.boxes) c.self.inside.keys.room c.self.view_is c.requires.room).0 in
    let begin = c.self.invariant.1.begin in
    omega (arith, some, begin)

pub put-requires-clause-room : goal.put-requires-clause-room
put-requires-clause-room c =
    let some = (room-some c.self.inside.txns c.args.self.now (vec_len c.self.inside.boxes) c.self.inside.keys.room c.self.view_is c.requires.room).1 in
    omega (arith, some)

pub put-requires-clause-fresh : goal.put-requires-clause-fresh
put-requires-clause-fresh c =
    no-key c.self.inside.keys _ c.args.serial c.self.invariant.0 (λ k ty at. c.requires.other k ty (ap (λ (s : Slab Tx). get s k) (sym c.self.view_is) ∙ at))

pub invariant_of-self : goal.invariant_of-self
invariant_of-self c =
    let begin = c.self.invariant.1.begin in
    let end = c.self.invariant.1.end in
    let fewer = c.take_box-tx.ensures.len in
    let same = c.take_box-tx.ensures.capacity in
    let len = c.insert_reserved-key.ensures.len in
    let capacity = c.insert_reserved-key.ensures.capacity in
    let key = c.insert_reserved-key.result in (
      keys-entered c.self.inside.keys c.put.new.self _ _ key c.begin.new.self c.self.invariant.0
          (unboxed-at (ready (vec_len c.self.inside.boxes) c.self.inside.keys.room) c.self.inside.txns key
          ∙ ap in_box c.insert_reserved-key.ensures.was_vacant)
          (unboxed-updates (ready (vec_len c.self.inside.boxes) c.self.inside.keys.room)
          (ready (vec_len c.take_box-tx.new.boxes)
          c.put.new.self.room) c.self.inside.txns c.insert_reserved-key.new.self key
          (Some _) c.insert_reserved-key.ensures.updates)
          (subst (λ (n : ℕ). Changes c.self.inside.keys c.put.new.self n (Some key)) (sym c.begin.ensures.names.0) c.put.ensures)
          (λ k ty at same'. c.requires.other k ty (ap (λ (s : Slab Tx). get s k) (sym c.self.view_is) ∙ at) (same' ∙ c.begin.ensures.names.0)),
      record { begin = omega (arith, begin, fewer, len, capacity); end = omega (arith, end, fewer, len, same) },
    )

pub returns-clause-entered : goal.returns-clause-entered
returns-clause-entered c =
    let begun = c.begin.ensures in
    record {
      tx = c.begin.new.self;
      begins = record { runs = begun.runs; takes = begun.takes; names = begun.names; fresh = begun.fresh; room = begun.room; certain = begun.certain };
      vacant = seen-vacant _ c.self.inside.txns c.args.self.now c.self.view_is c.insert_reserved-key.result c.insert_reserved-key.ensures.was_vacant;
      updates = seen-updates _ c.self.inside.txns c.args.self.now c.self.view_is _ c.insert_reserved-key.new.self c.insert_reserved-key.result
          (Some _) c.insert_reserved-key.ensures.updates;
    }

pub returns-clause-len : goal.returns-clause-len
returns-clause-len c =
    let len = c.insert_reserved-key.ensures.len in
    let old = seen-len (ready (vec_len c.self.inside.boxes) c.self.inside.keys.room) c.self.inside.txns c.args.self.now c.self.view_is in
    let new = unboxed-len (ready (vec_len c.take_box-tx.new.boxes) c.put.new.self.room) c.insert_reserved-key.new.self in
    omega (arith, len, old, new)
