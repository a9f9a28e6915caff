use Rattle.std.proofs.Common.{ℕ, sym, subst, ◌∙◌}
use Rattle.lock_table.specs.Rows.{IsRowOf, IsPrevious, IsNext, without_txn, before_at, behind_at, end_left}
use Rattle.lock_table.proofs.RowLemmas.{parted, led_by, followed_by}
use Rattle.lock_table.proofs.Standing.{same_record, other_record, at_same, at_other, changed_late, changed_early, there_behind, there_before}
use Rattle.lock_table.proofs.row.leave.Goals as goal

pub follow-requires : goal.follow-requires
follow-requires c = record {
  room = λ t is none.
      let row = c.requires.row.1 in
      let previous = subst (IsPrevious c.requires.row.0 c.args.txn) (sym c.beside-before.ensures.before ∙ is) (row.previous c.args.txn c.requires.row.2) in
      absurd (there_behind _ c.args.txn none (led_by c.requires.row.0 c.args.txn t _ c.requires.row.2 previous (row.next t previous.1)));
}

pub precede-requires : goal.precede-requires
precede-requires c = record {
  room = λ t is none.
      let row = c.requires.row.1 in
      let next = subst (IsNext c.requires.row.0 c.args.txn) (sym c.beside-before.ensures.behind ∙ is) (row.next c.args.txn c.requires.row.2) in
      absurd (there_before _ c.args.txn none (c.follow.ensures.before c.args.name.now t ∙ followed_by c.requires.row.0 c.args.txn t _ c.requires.row.2 next (row.previous t next.1)));
}

pub returns-clause-row : goal.returns-clause-row
returns-clause-row c = λ p row there.
    let name = c.args.name.now in
    let txn = c.args.txn in
    let before = c.beside-before.result.before in
    let behind = c.beside-before.result.behind in
    let previous = subst (IsPrevious p txn) (sym c.beside-before.ensures.before) (row.previous txn there) in
    let next = subst (IsNext p txn) (sym c.beside-before.ensures.behind) (row.next txn there) in
    let it = parted p txn before behind there previous next c.args.ends.first c.args.ends.last _ _ (before_at c.part.new.links name) (behind_at c.part.new.links name)
    c.requires.several row
    (λ u. changed_late _ _ _ _ _ _ _ _ _ _ (same_record name txn u) (at_same behind name u) (c.part.ensures.before name u) (c.precede.ensures.before name u) (c.follow.ensures.before name u))
    (λ u. changed_early _ _ _ _ _ _ _ _ _ _ (same_record name txn u) (at_same before name u) (c.part.ensures.behind name u) (c.precede.ensures.behind name u) (c.follow.ensures.behind name u)) in
    subst (λ (first : ℕ). IsRowOf (without_txn p txn) first c.end_left-2.result c.part.new.links name) (sym c.end_left.ensures)
    (subst (λ (last : ℕ). IsRowOf (without_txn p txn) (end_left c.args.ends.first before behind) last c.part.new.links name) (sym c.end_left-2.ensures) it)

pub returns-clause-before : goal.returns-clause-before
returns-clause-before c = λ r other. λ i. λ t.
    changed_late _ _ _ _ _ _ _ _ _ _ (other_record c.args.name.now r c.args.txn t other) (at_other c.beside-before.result.behind c.args.name.now r t other)
    (c.part.ensures.before r t) (c.precede.ensures.before r t) (c.follow.ensures.before r t) i

pub returns-clause-behind : goal.returns-clause-behind
returns-clause-behind c = λ r other. λ i. λ t.
    changed_early _ _ _ _ _ _ _ _ _ _ (other_record c.args.name.now r c.args.txn t other) (at_other c.beside-before.result.before c.args.name.now r t other)
    (c.part.ensures.behind r t) (c.precede.ensures.behind r t) (c.follow.ensures.behind r t) i
