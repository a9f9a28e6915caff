use Rattle.std.proofs.Common.{ℕ, Option, Some, None, IfSome, sym, ap, subst, ◌∙◌, is_some}
use Rattle.indexmap.specs.IndexMap.{get, Updates}
use Rattle.indexmap.proofs.CallerLemmas.{updates-with_value_at}
use Rattle.access_slots.specs.declared.slot.Record.{Record}
use Rattle.access_slots.specs.declared.slot.Mode.{Mode}
use Rattle.access_slots.specs.Locks.{record_eq}
use Rattle.lock_table.specs.declared.maps.Holding.{Holding}
use Rattle.lock_table.specs.Rows.{before_at, behind_at}
use Rattle.lock_table.specs.Holds.{IsHeld}
use Rattle.lock_table.proofs.HoldLemmas.{holding, taken_last, taken_one, row_of}
use Rattle.lock_table.proofs.Taking.{record_laws, found_at, same_mode}
use Rattle.lock_table.proofs.maps.take_holder.Goals as goal

pub leave-held-requires-clause-row : goal.leave-held-requires-clause-row
leave-held-requires-clause-row c =
    let m = c.args.records.now in
    let k = c.args.lock.now.«record» in
    let links = c.args.links.now in
    let h = c.requires.held.0 in (
      λ t. is_some (h t),
      row_of h (get record_eq m k) c.index.result.now (before_at links k) (behind_at links k)
          c.requires.held.1 (sym c.in-Some.ensures.value ∙ c.index.ensures),
      c.requires.held.2,
    )

pub returns-then-ends-clause-held : goal.returns-then-ends-clause-held
returns-then-ends-clause-held c = λ h is there.
    let m = c.args.records.now in
    let k = c.args.lock.now.«record» in
    let links = c.args.links.now in
    let at = found_at m.entries k c.in-Some.index c.index.result.now (sym c.in-Some.ensures.index) c.index.ensures in
    let removed : Updates record_eq m c.swap_remove_index.new.self k None =
    subst (λ (o : Option (Record × Holding)). IfSome o (λ p. Updates record_eq m c.swap_remove_index.new.self p.0 None))
    (c.swap_remove_index.ensures.entry ∙ at) c.swap_remove_index.ensures.updates in
    taken_last h c.args.txn (get record_eq m k) _ c.index.result.now (before_at links k) (behind_at links k) is (sym c.in-Some.ensures.value ∙ c.index.ensures)
    removed.1 there c.if-ends.true

pub returns-then-ends-clause-others : goal.returns-then-ends-clause-others
returns-then-ends-clause-others c = λ h r other is.
    let m = c.args.records.now in
    let k = c.args.lock.now.«record» in
    let links = c.args.links.now in
    let at = found_at m.entries k c.in-Some.index c.index.result.now (sym c.in-Some.ensures.index) c.index.ensures in
    let removed : Updates record_eq m c.swap_remove_index.new.self k None =
    subst (λ (o : Option (Record × Holding)). IfSome o (λ p. Updates record_eq m c.swap_remove_index.new.self p.0 None))
    (c.swap_remove_index.ensures.entry ∙ at) c.swap_remove_index.ensures.updates in
    subst (λ (o : Option Holding). IsHeld h o (before_at links r) (behind_at links r)) (sym (removed.2 r other)) is

pub returns-clause-held : goal.returns-clause-held
returns-clause-held c = λ h is there.
    let m = c.args.records.now in
    let k = c.args.lock.now.«record» in
    let links = c.args.links.now in
    let g = c.index.result.now in
    let at = found_at m.entries k c.in-Some.index g (sym c.in-Some.ensures.index) c.index.ensures in
    let new : Holding = record { mode = c.index_mut-held.result.now.mode; ends = c.leave-held.result } in
    let up = updates-with_value_at m c.in-Some.index new record_laws c.in-Some.ensures.unique k g at in
    let ends = c.leave-held.result in
    taken_one h c.args.txn (get record_eq m k) _ g ends.first ends.last (before_at links k) (behind_at links k) _ _
    is (sym c.in-Some.ensures.value ∙ c.index.ensures)
    (up.1 ∙ ap (λ (mode : Mode). Some (holding mode ends.first ends.last)) (same_mode _ g c.index_mut-held.result.now c.index.ensures c.index_mut-held.ensures.value))
    c.if-ends.false (λ row. c.leave-held.ensures.row (λ t. is_some (h t)) row there)

pub returns-clause-others : goal.returns-clause-others
returns-clause-others c = λ h r other is.
    let m = c.args.records.now in
    let k = c.args.lock.now.«record» in
    let at = found_at m.entries k c.in-Some.index c.index.result.now (sym c.in-Some.ensures.index) c.index.ensures in
    let up = updates-with_value_at m c.in-Some.index _ record_laws c.in-Some.ensures.unique k c.index.result.now at in
    subst (λ (o : Option Holding). IsHeld h o (before_at c.leave-held.new.links r) (behind_at c.leave-held.new.links r)) (sym (up.2 r other))
    (subst (λ (f : ℕ → Option ℕ). IsHeld h (get record_eq m r) f (behind_at c.leave-held.new.links r)) (sym (c.leave-held.ensures.before r other))
    (subst (λ (f : ℕ → Option ℕ). IsHeld h (get record_eq m r) (before_at c.args.links.now r) f) (sym (c.leave-held.ensures.behind r other)) is))
