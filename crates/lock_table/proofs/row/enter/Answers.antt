use Rattle.std.proofs.Common.{arith, min, ℕ, sym, subst}
use Rattle.lock_table.specs.Rows.{IsRowOf, with_txn, before_at, behind_at}
use Rattle.lock_table.proofs.RowLemmas.{entered}
use Rattle.lock_table.proofs.Standing.{same_record, other_record, at_same, at_other, changed_late, changed_early}
use Rattle.lock_table.proofs.row.enter.Goals as goal

pub last_below-before-requires : goal.last_below-before-requires
last_below-before-requires c = record { row = (c.requires.row.0, c.requires.row.1) }

pub follow-requires : goal.follow-requires
follow-requires c = record { room = λ t is none. omega (arith, c.requires.room) }

pub precede-requires : goal.precede-requires
precede-requires c = record { room = λ t is none. omega (arith, c.requires.room, c.follow.ensures.room) }

pub stand-requires : goal.stand-requires
stand-requires c = record { room = λ none. omega (arith, c.requires.room, c.follow.ensures.room, c.precede.ensures.room) }

pub returns-clause-row : goal.returns-clause-row
returns-clause-row c = λ p row out.
    let name = c.args.name.now in
    let txn = c.args.txn in
    let before = c.last_below-before.result in
    let behind = c.first_behind-behind.result in
    let previous = c.last_below-before.ensures p row out in
    let next = c.first_behind-behind.ensures p txn row out previous in
    let it = entered p txn before behind out previous next c.args.ends.first c.args.ends.last _ _ (before_at c.stand.new.links name) (behind_at c.stand.new.links name) row
    (λ u. changed_late _ _ _ _ _ _ _ _ _ _ (same_record name txn u) (at_same behind name u) (c.stand.ensures.before name u) (c.precede.ensures.before name u) (c.follow.ensures.before name u))
    (λ u. changed_early _ _ _ _ _ _ _ _ _ _ (same_record name txn u) (at_same before name u) (c.stand.ensures.behind name u) (c.precede.ensures.behind name u) (c.follow.ensures.behind name u)) in
    subst (λ (first : ℕ). IsRowOf (with_txn p txn) first c.max.result c.stand.new.links name) (sym c.min.ensures)
    (subst (λ (last : ℕ). IsRowOf (with_txn p txn) (min txn c.args.ends.first) last c.stand.new.links name) (sym c.max.ensures) it)

pub returns-clause-before : goal.returns-clause-before
returns-clause-before c = λ r other. λ i. λ t.
    changed_late _ _ _ _ _ _ _ _ _ _ (other_record c.args.name.now r c.args.txn t other) (at_other c.first_behind-behind.result c.args.name.now r t other)
    (c.stand.ensures.before r t) (c.precede.ensures.before r t) (c.follow.ensures.before r t) i

pub returns-clause-behind : goal.returns-clause-behind
returns-clause-behind c = λ r other. λ i. λ t.
    changed_early _ _ _ _ _ _ _ _ _ _ (other_record c.args.name.now r c.args.txn t other) (at_other c.last_below-before.result c.args.name.now r t other)
    (c.stand.ensures.behind r t) (c.precede.ensures.behind r t) (c.follow.ensures.behind r t) i
