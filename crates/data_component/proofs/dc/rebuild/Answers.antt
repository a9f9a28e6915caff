use Rattle.std.proofs.Common.{◌≡◌, ◌∙◌, ◌+◌, ◌<◌, sym, ap, refl, subst, arith, length, take, vec_capacity}
use Rattle.std.specs.Prelude.{reverse, not, slice_index_or}
use Rattle.std.proofs.lemmas.Option.{get_or_from_slice_get}
use Rattle.access_slots.specs.Access.{is_no_room}
use Rattle.data_component.specs.Performed.{Performed}
use Rattle.data_component.specs.Joining.Performing.{Performs}
use Rattle.data_component.specs.Keeping.{AreRowsOf}
use Rattle.data_component.proofs.Serving.{rows_next, few_behind, kept_next, kept_still}
use Rattle.data_component.proofs.dc.rebuild.Goals.{then-number-mark, else-number-mark}
use Rattle.data_component.proofs.dc.rebuild.Goals as goal

pub performed-preserved : goal.performed-preserved
performed-preserved c = record {
  rows = rows_now;
  fits = few_behind c.perform.new.rows.items c.args.base.now c.args.performed.now.items (c.performed.place + 1) (omega (arith, inside)) rows_now;
  kept = elim c.if-number-mark.branch [
    | then-number-mark w ↦
        kept_next c.args.row_limit c.args.base.now c.performed.kept.items c.if-number-mark.kept.items c.args.mark
        c.args.performed.now.items c.performed.place c.performed.place c.at-number.result.0 c.at-number.result
        inside c.requires.right c.performed.invariant.kept (ap (λ (e : Performed). e.0) is) w.if-number-mark.true (ap (λ v. v.items) w.kept-is ∙ w.keep.ensures.items) refl
    | else-number-mark w ↦
        rw (w.kept-is) (kept_still c.performed.kept.items c.args.mark c.args.performed.now.items c.performed.place
        c.at-number.result.0 c.at-number.result inside c.performed.invariant.kept (ap (λ (e : Performed). e.0) is)
        w.if-number-mark.false)
  ];
  rows_room = (let same = c.perform.ensures.capacity in let before = c.performed.invariant.rows_room in omega (arith, same, before));
  kept_room = elim c.if-number-mark.branch [
    | then-number-mark w ↦ ap vec_capacity w.kept-is ∙ w.keep.ensures.capacity ∙ c.performed.invariant.kept_room
    | else-number-mark w ↦ ap vec_capacity w.kept-is ∙ c.performed.invariant.kept_room
  ];
}
  where
    inside : c.performed.place < length c.args.performed.now.items
    inside = (let below = c.performed-test.true in let end = c.len-place-end.ensures in omega (arith, below, end))

    is : c.at-number.result ≡ slice_index_or c.args.performed.now.items c.performed.place c.at-number.result
    is = sym (get_or_from_slice_get c.args.performed.now.items c.performed.place c.at-number.result c.at-number.result c.at-number.ensures)

    rows_now : AreRowsOf c.perform.new.rows.items c.args.base.now (reverse (take (c.performed.place + 1) c.args.performed.now.items))
    rows_now =
        rows_next c.args.row_limit c.found_room.result c.performed.rows.items c.perform.new.rows.items c.args.base.now c.args.performed.now.items c.performed.place c.at-number.result c.perform.result
        inside c.requires.right c.performed.invariant.rows (c.found_room.ensures ∙ ap (λ (e : Performed). not (is_no_room e.2)) is)
        (subst (λ (e : Performed). Performs c.found_room.result c.performed.rows.items c.perform.new.rows.items e.1 c.perform.result) is c.perform.ensures.performs)
