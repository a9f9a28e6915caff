use Rattle.std.proofs.Common.{◌^◌, ◌<◌, rules, subst}
use Rattle.lock_table.specs.Clashes.{keeps_out}
use Rattle.lock_table.specs.Facts.{held_by}
use Rattle.tc_core.proofs.HolderLemmas.{AreStill, IsIn, still_first, in_first, still_next, in_next, left_less}
use Rattle.tc_core.proofs.open_txns.OpenTxns.holds_up.Goals as goal

pub holders-init : goal.holders-init
holders-init c =
    let p = keeps_out (held_by c.args.held.now) c.args.lock.now in
    record {
      way = in_first p c.least_in_the_way-holder.result c.least_in_the_way-holder.ensures;
      still = still_first p c.args.self.now c.least_in_the_way-holder.result c.least_in_the_way-holder.ensures;
    }

pub holders-preserved : goal.holders-preserved
holders-preserved c =
    let p = keeps_out (held_by c.args.held.now) c.args.lock.now in
    let way = subst (IsIn p) c.in-Some.is c.holders.invariant.way in
    let still = subst (AreStill p c.args.self.now) c.in-Some.is c.holders.invariant.still in
    let next = c.next_in_the_way-holder.ensures way in
    record {
      way = in_next p c.in-Some.txn c.next_in_the_way-holder.result next;
      still = still_next p c.args.self.now c.in-Some.txn c.next_in_the_way-holder.result still (c.moves.ensures.still c.if-moves.false) next;
    }

pub returns-then-moves-clause-some : goal.returns-then-moves-clause-some
returns-then-moves-clause-some c = λ yes_it.
    let p = keeps_out (held_by c.args.held.now) c.args.lock.now in
    (c.in-Some.txn, subst (IsIn p) c.in-Some.is c.holders.invariant.way, c.moves.ensures.moves c.if-moves.true)

pub returns-clause-none : goal.returns-clause-none
returns-clause-none c = λ no_it t here.
    let p = keeps_out (held_by c.args.held.now) c.args.lock.now in
    subst (AreStill p c.args.self.now) c.in_default.is c.holders.invariant.still t here tt

pub holders-smaller : goal.holders-smaller
holders-smaller c =
    let p = keeps_out (held_by c.args.held.now) c.args.lock.now in
    let small : c.in-Some.txn < 2 ^ 64 = search rules in
    left_less p c.in-Some.txn c.next_in_the_way-holder.result c.holders.holder c.in-Some.is small
    (c.next_in_the_way-holder.ensures (subst (IsIn p) c.in-Some.is c.holders.invariant.way))
