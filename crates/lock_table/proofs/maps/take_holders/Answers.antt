use Rattle.std.proofs.Common.{◌+◌, List, ◌∷◌, None, drop, get_or, subst}
use Rattle.std.proofs.lemmas.List.{drop_all}
use Rattle.access_slots.specs.declared.lock.Lock.{Lock}
use Rattle.access_slots.specs.Locks.{mode_in}
use Rattle.lock_table.specs.Facts.{granted}
use Rattle.lock_table.specs.Holds.{AreHeldAs}
use Rattle.lock_table.proofs.Granting.{stepped, left_now, left_others, holds_yet, held_yet}
use Rattle.lock_table.proofs.Steps.{any_lock, opened, above, rising_after}
use Rattle.lock_table.proofs.maps.take_holders.Goals as goal

pub loop-lock-init : goal.loop-lock-init
loop-lock-init c = record {
  rising = c.requires.rising;
  held = λ held are mine. held_yet c.args.records.now c.args.links.now held c.args.txn (mode_in c.args.locks.now) mine are;
}

pub take_holder-requires : goal.take_holder-requires
take_holder-requires c =
    let locks = c.args.locks.now in
    let i = c.loop-lock.lock-index in
    let inside = c.loop-lock-test.true in
    let l : Lock = get_or locks i any_lock in
    let given = c.requires.held in
    let now = subst (λ (ls : List Lock). AreHeldAs (granted given.0 c.args.txn (mode_in ls)) c.loop-lock.records c.loop-lock.links) (opened locks i any_lock inside)
    (c.loop-lock.invariant.held given.0 given.1 given.2) in
    record {
      held = (
        λ t. granted given.0 c.args.txn (mode_in (l ∷ drop (i + 1) locks)) t l.«record»,
        now l.«record»,
        holds_yet locks l (drop (i + 1) locks) (above locks i inside c.loop-lock.invariant.rising any_lock) given.0 c.args.txn,
      );
    }

pub loop-lock-preserved : goal.loop-lock-preserved
loop-lock-preserved c =
    let locks = c.args.locks.now in
    let i = c.loop-lock.lock-index in
    let inside = c.loop-lock-test.true in
    let rises = c.loop-lock.invariant.rising in
    let l : Lock = get_or locks i any_lock in
    let rest = drop (i + 1) locks in
    let higher = above locks i inside rises any_lock in
    record {
      rising = rising_after locks i inside rises;
      held = λ held are mine.
          let now = subst (λ (ls : List Lock). AreHeldAs (granted held c.args.txn (mode_in ls)) c.loop-lock.records c.loop-lock.links) (opened locks i any_lock inside)
          (c.loop-lock.invariant.held held are mine) in
          stepped held c.args.txn c.loop-lock.records c.take_holder.new.records c.loop-lock.links c.take_holder.new.links l.«record» (mode_in (l ∷ rest)) (mode_in rest)
          None c.take_holder.ensures.others (left_now locks l rest higher) (left_others locks l rest higher)
          (c.take_holder.ensures.held (λ t. granted held c.args.txn (mode_in (l ∷ rest)) t l.«record») (now l.«record») (holds_yet locks l rest higher held c.args.txn))
          now;
    }

pub returns : goal.returns
returns c = λ held are mine.
    subst (λ (ls : List Lock). AreHeldAs (granted held c.args.txn (mode_in ls)) c.loop-lock.records c.loop-lock.links)
    (drop_all c.loop-lock.lock-index c.args.locks.now c.loop-lock-test.false) (c.loop-lock.invariant.held held are mine)
