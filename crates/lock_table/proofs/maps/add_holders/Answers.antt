use Rattle.std.proofs.Common.{arith, ◌+◌, List, ◌∷◌, Some, drop, get_or, sym, subst, ◌∙◌}
use Rattle.std.proofs.lemmas.List.{drop_all}
use Rattle.access_slots.specs.declared.lock.Lock.{Lock}
use Rattle.lock_table.specs.Facts.{granted}
use Rattle.lock_table.specs.Holds.{AreHeldAs}
use Rattle.lock_table.proofs.Granting.{got, AreOf, stepped, rest_of, got_now, got_others, holds_not, free_yet, held_yet, none_got}
use Rattle.lock_table.proofs.Steps.{any_lock, opened, above, rising_after}
use Rattle.lock_table.proofs.maps.add_holders.Goals as goal

pub loop-lock-init : goal.loop-lock-init
loop-lock-init c = record {
  rising = c.requires.rising;
  left = λ r m is. is;
  room = (omega (arith, c.requires.room.0), omega (arith, c.requires.room.1));
  held = λ held are nothing compatible.
      held_yet c.args.records.now c.args.links.now held c.args.txn (got c.args.locks.now c.args.locks.now) (λ r. nothing r ∙ sym (none_got c.args.locks.now r)) are;
}

pub add_holder-requires-clause-room : goal.add_holder-requires-clause-room
add_holder-requires-clause-room c =
    let inside = c.loop-lock-test.true in
    let room = c.loop-lock.invariant.room in
    (omega (arith, room.0, inside), omega (arith, room.1, inside))

pub add_holder-requires-clause-held : goal.add_holder-requires-clause-held
add_holder-requires-clause-held c =
    let locks = c.args.locks.now in
    let i = c.loop-lock.lock-index in
    let inside = c.loop-lock-test.true in
    let l : Lock = get_or locks i any_lock in
    let given = c.requires.held in
    let now = subst (λ (ls : List Lock). AreHeldAs (granted given.0 c.args.txn (got locks ls)) c.loop-lock.records c.loop-lock.links) (opened locks i any_lock inside)
    (c.loop-lock.invariant.held given.0 given.1 given.2 given.3) in (
      λ t. granted given.0 c.args.txn (got locks (l ∷ drop (i + 1) locks)) t l.«record»,
      now l.«record»,
      holds_not locks l (drop (i + 1) locks) (above locks i inside c.loop-lock.invariant.rising any_lock) given.0 c.args.txn,
    )

pub loop-lock-preserved : goal.loop-lock-preserved
loop-lock-preserved c =
    let locks = c.args.locks.now in
    let i = c.loop-lock.lock-index in
    let inside = c.loop-lock-test.true in
    let rises = c.loop-lock.invariant.rising in
    let l : Lock = get_or locks i any_lock in
    let rest = drop (i + 1) locks in
    let higher = above locks i inside rises any_lock in
    let are_of : AreOf locks (l ∷ rest) = subst (AreOf locks) (opened locks i any_lock inside) c.loop-lock.invariant.left in
    record {
      rising = rising_after locks i inside rises;
      left = rest_of locks l rest higher are_of;
      room = (omega (arith, c.add_holder.ensures.room.0, c.loop-lock.invariant.room.0), omega (arith, c.add_holder.ensures.room.1, c.loop-lock.invariant.room.1));
      held = λ held are nothing compatible.
          let now = subst (λ (ls : List Lock). AreHeldAs (granted held c.args.txn (got locks ls)) c.loop-lock.records c.loop-lock.links) (opened locks i any_lock inside)
          (c.loop-lock.invariant.held held are nothing compatible) in
          stepped held c.args.txn c.loop-lock.records c.add_holder.new.records c.loop-lock.links c.add_holder.new.links l.«record» (got locks (l ∷ rest)) (got locks rest)
          (Some l.mode) c.add_holder.ensures.others (got_now locks l rest higher are_of) (got_others locks l rest higher)
          (c.add_holder.ensures.held (λ t. granted held c.args.txn (got locks (l ∷ rest)) t l.«record») (now l.«record») (holds_not locks l rest higher held c.args.txn)
          (free_yet locks l rest higher held c.args.txn are_of compatible))
          now;
    }

pub returns : goal.returns
returns c = λ held are nothing compatible.
    subst (λ (ls : List Lock). AreHeldAs (granted held c.args.txn (got c.args.locks.now ls)) c.loop-lock.records c.loop-lock.links)
    (drop_all c.loop-lock.lock-index c.args.locks.now c.loop-lock-test.false) (c.loop-lock.invariant.held held are nothing compatible)
