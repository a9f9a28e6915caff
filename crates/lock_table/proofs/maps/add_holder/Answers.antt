use Rattle.std.proofs.Common.{rules, ℕ, ap, sym, subst, ◌∙◌, is_some}
use Rattle.std.specs.Prelude.{Option, Some, unwrap_or}
use Rattle.indexmap.specs.IndexMap.{get}
use Rattle.access_slots.specs.declared.slot.Mode.{Mode}
use Rattle.access_slots.specs.Locks.{record_eq}
use Rattle.lock_table.specs.declared.maps.Holding.{Holding}
use Rattle.lock_table.specs.Rows.{before_at, behind_at}
use Rattle.lock_table.specs.Holds.{IsHeld, with_mode}
use Rattle.lock_table.proofs.HoldLemmas.{holding, row_if, added, placed}
use Rattle.lock_table.proofs.maps.add_holder.Goals as goal

pub join-requires-clause-row : goal.join-requires-clause-row
join-requires-clause-row c = λ other.
    let k = c.args.lock.now.«record» in
    let mode = c.args.lock.now.mode in
    let given = c.requires.held in
    let was = c.or_insert.ensures.value ∙ ap (λ (o : Option Holding). unwrap_or o (holding mode c.args.txn c.args.txn)) c.in-Ok.ensures.value in (
      λ t. is_some (given.0 t),
      row_if given.0 c.args.txn mode (before_at c.args.links.now k) (behind_at c.args.links.now k) (get record_eq c.args.records.now k) c.or_insert.result.now given.1 was other,
      ap (λ (o : Option Mode). is_some o) given.2,
    )

pub returns-clause-held : goal.returns-clause-held
returns-clause-held c = λ h is out free.
    let k = c.args.lock.now.«record» in
    let mode = c.args.lock.now.mode in
    let txn = c.args.txn in
    let old = get record_eq c.args.records.now k in
    let bf = before_at c.args.links.now k in
    let bh = behind_at c.args.links.now k in
    let was = c.or_insert.ensures.value ∙ ap (λ (o : Option Holding). unwrap_or o (holding mode txn txn)) c.in-Ok.ensures.value in
    placed (with_mode h txn (Some mode)) _ _ k (Some c.join.new.held) _ _
    (added h txn mode bf bh old c.or_insert.result.now c.join.new.held (before_at c.join.new.links k) (behind_at c.join.new.links k) is out free was c.join.ensures.mode
    (λ first. (let kept = c.join.ensures.alone first in
    (kept.0, ap (λ l. before_at l k) kept.1, ap (λ l. behind_at l k) kept.1)))
    (λ other. c.join.ensures.row other (λ t. is_some (h t)) (row_if h txn mode bf bh old c.or_insert.result.now is was other) (ap (λ (o : Option Mode). is_some o) out)))
    (search rules) (c.in-Ok.ensures.update.0 c.join.new.held).1

pub returns-clause-others : goal.returns-clause-others
returns-clause-others c = λ h r other is.
    let bf = before_at c.args.links.now r in
    placed h _ _ r (get record_eq c.args.records.now r) _ _
    (subst (λ (f : ℕ → Option ℕ). IsHeld h (get record_eq c.args.records.now r) f (behind_at c.join.new.links r)) (sym (c.join.ensures.before r other))
    (subst (λ (f : ℕ → Option ℕ). IsHeld h (get record_eq c.args.records.now r) bf f) (sym (c.join.ensures.behind r other)) is))
    (search rules) ((c.in-Ok.ensures.update.0 c.join.new.held).2 r other)
