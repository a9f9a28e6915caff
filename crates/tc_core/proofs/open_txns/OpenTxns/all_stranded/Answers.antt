use Rattle.std.proofs.Common.{◌≡◌, ◌+◌, ℕ, true, List, drop, get_or, subst}
use Rattle.std.proofs.lemmas.List.{drop_all}
use Rattle.access_slots.specs.declared.lock.Lock.{Lock}
use Rattle.lock_table.specs.Clashes.{clashes}
use Rattle.lock_table.specs.Facts.{held_by}
use Rattle.tc_core.specs.Joining.Holders.{IsStill}
use Rattle.lock_table.proofs.Steps.{any_lock, opened}
use Rattle.tc_core.proofs.HolderLemmas.{AreStillBut, still_after, still_all, clash_here}
use Rattle.tc_core.proofs.open_txns.OpenTxns.all_stranded.Goals as goal

pub loop-lock-preserved : goal.loop-lock-preserved
loop-lock-preserved c =
    let locks = c.locks-locks.result.now in
    let i = c.loop-lock.lock-index in
    still_after c.args.held.now c.args.self.now locks (get_or locks i any_lock) (drop (i + 1) locks)
    (subst (AreStillBut c.args.held.now c.args.self.now locks) (opened locks i any_lock c.loop-lock-test.true) c.loop-lock.invariant)
    (c.holds_up.ensures.none c.if-holds_up.false)

pub returns-clause-all : goal.returns-clause-all
returns-clause-all c = λ yes_it.
    subst (λ (ls : List Lock). (t : ℕ) → clashes ls (held_by c.args.held.now t) ≡ true → IsStill c.args.self.now t) c.locks-locks.ensures.value
    (still_all c.args.held.now c.args.self.now c.locks-locks.result.now _
    (drop_all c.loop-lock.lock-index c.locks-locks.result.now c.loop-lock-test.false) c.loop-lock.invariant)

pub returns-then-holds_up-clause-some : goal.returns-then-holds_up-clause-some
returns-then-holds_up-clause-some c = λ no_it.
    let up = c.holds_up.ensures.some c.if-holds_up.true in
    let clash = clash_here c.args.held.now up.0 c.locks-locks.result.now c.loop-lock.lock-index c.loop-lock-test.true up.1 in
    record { txn = up.0; clash = subst (λ (ls : List Lock). clashes ls (held_by c.args.held.now up.0) ≡ true) c.locks-locks.ensures.value clash; moves = up.2 }
