use Rattle.std.proofs.Common.{ℕ, ◌+◌, List, Option, drop, get_or, sym, ap, subst, ◌∙◌}
use Rattle.std.proofs.lemmas.List.{drop_all}
use Rattle.access_slots.specs.declared.lock.Lock.{Lock}
use Rattle.access_slots.specs.Locks.{mode_in}
use Rattle.access_slots.specs.Held.{in_the_way, IsFirstInTheWay}
use Rattle.lock_table.specs.Facts.{held_by}
use Rattle.lock_table.specs.Holds.{IsLeastInTheWay}
use Rattle.lock_table.proofs.Barring.{way_later, way_first, first_of}
use Rattle.lock_table.proofs.Steps.{any_lock, opened, above, rising_after}
use Rattle.lock_table.proofs.table.first_busy.Goals as goal

pub loop-lock-preserved : goal.loop-lock-preserved
loop-lock-preserved c =
    let held = held_by c.args.table.now in
    let locks = c.args.locks.now in
    let i = c.loop-lock.lock-index in
    let inside = c.loop-lock-test.true in
    let rises = c.loop-lock.invariant.rising in
    let l : Lock = get_or locks i any_lock in
    record {
      rising = rising_after locks i inside rises;
      left = λ r t.
          c.loop-lock.invariant.left r t
          ∙ ap (λ (ls : List Lock). in_the_way held (mode_in ls) r t) (opened locks i any_lock inside)
          ∙ way_later l (drop (i + 1) locks) (above locks i inside rises any_lock) held
          (subst (λ (o : Option ℕ). IsLeastInTheWay (λ u. held u l.«record») l.mode o) c.in_default.is c.least_in_the_way.ensures) r t;
    }

pub returns-in-Some-clause-some : goal.returns-in-Some-clause-some
returns-in-Some-clause-some c =
    let held = held_by c.args.table.now in
    let locks = c.args.locks.now in
    let i = c.loop-lock.lock-index in
    let inside = c.loop-lock-test.true in
    let rises = c.loop-lock.invariant.rising in
    let l : Lock = get_or locks i any_lock in
    first_of held (mode_in locks) (mode_in (drop i locks)) l.«record» c.in-Some.holder c.loop-lock.invariant.left
    (subst (λ (ls : List Lock). IsFirstInTheWay held (mode_in ls) l.«record» c.in-Some.holder) (sym (opened locks i any_lock inside))
    (way_first l (drop (i + 1) locks) (above locks i inside rises any_lock) held c.in-Some.holder c.in-Some.ensures))

pub returns-clause-none : goal.returns-clause-none
returns-clause-none c = λ r t.
    c.loop-lock.invariant.left r t
    ∙ ap (λ (ls : List Lock). in_the_way (held_by c.args.table.now) (mode_in ls) r t) (drop_all c.loop-lock.lock-index c.args.locks.now c.loop-lock-test.false)
