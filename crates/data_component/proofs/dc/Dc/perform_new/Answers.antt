use Rattle.std.proofs.Common.{rules, arith, ap, length, ◌∷◌, []}
use Rattle.std.proofs.lemmas.List.{length-append}
use Rattle.data_component.proofs.Serving.{keeps_next, few_rows}
use Rattle.data_component.proofs.dc.Dc.perform_new.Goals as goal

pub invariant_of-self : goal.invariant_of-self
invariant_of-self c = (
  keeps_next c.args.redo _ c.self.inside.rows.items c.perform-said.new.rows.items c.self.inside.base.items
      c.self.inside.performed.items c.note.new.performed.items c.self.inside.kept.items c.keep.new.kept.items
      c.self.inside.mark c.self.inside.row_limit c.self.inside.op_limit
      c.args.number c.args.op.now c.perform-said.result c.len-2.result
      c.self.invariant.0 (search rules) (search rules) (search rules) (search rules) c.perform-said.ensures.performs c.note.ensures.items c.keep.ensures.items (search rules),
  search rules,
  search rules,
  search rules,
  (let inside = c.self.invariant.4 in let more = ap length c.note.ensures.items in omega (
    arith,
    inside,
    more,
    length-append c.self.inside.performed.items ((c.args.number, c.args.op.now, c.perform-said.result) ∷ []),
  )),
  search rules,
  search rules,
  search rules,
)

pub perform-said-requires-clause-room : goal.perform-said-requires-clause-room
perform-said-requires-clause-room c =
    let few = few_rows c.self.inside.rows.items c.self.inside.base.items c.self.inside.performed.items c.self.invariant.0.rows in
    let begins = c.self.invariant.0.fits in
    let inside = c.if-len-self.false in
    let count = c.len.ensures in
    let room = c.self.invariant.1 in
    omega (arith, few, begins, inside, count, room)
