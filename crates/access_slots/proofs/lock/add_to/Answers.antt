use Rattle.std.proofs.Common.{rules, arith, ap, ◌∙◌}
use Rattle.std.specs.List.{prefix_len}
use Rattle.std.proofs.lemmas.List.Sums.{prefix_len-le-length}
use Rattle.access_slots.proofs.Locking.{before, raised_is_added, inserted_is_added}
use Rattle.access_slots.proofs.lock.add_to.Goals as goal

pub insert-requires : goal.insert-requires
insert-requires c =
    let locks = c.args.locks.now.items in
    let low = prefix_len-le-length (before c.args.«record») locks in
    let at = c.count_before-place.ensures ∙ ap (prefix_len (before c.args.«record»)) c.as_slice.ensures.value in
    (omega arith, (omega (arith, low, at), c.requires))

pub returns-then-is_locked_at : goal.returns-then-is_locked_at
returns-then-is_locked_at c = raised_is_added c.args.«record» c.args.mode c.args.locks.now.items c.count_before-place.result _ (search rules) (search rules) c.raise.ensures

pub returns-else-is_locked_at : goal.returns-else-is_locked_at
returns-else-is_locked_at c = inserted_is_added c.args.«record» c.args.mode c.args.locks.now.items c.count_before-place.result _ (search rules) (search rules) c.insert.ensures.items
