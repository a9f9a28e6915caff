use Rattle.std.proofs.Common.{rules, refl, ◌≡◌, ◌∙◌, ap, arith, length, subst}
use Rattle.std.specs.Prelude.{reverse}
use Rattle.data_component.specs.Sorted.{Rows}
use Rattle.data_component.specs.Keeping.{AreRowsOf}
use Rattle.std.proofs.lemmas.List.{length-take-le}
use Rattle.data_component.proofs.Serving.{right_cut, keeps_cut}
use Rattle.data_component.proofs.dc.Dc.restart.Goals as goal

pub rebuild-requires-clause-right : goal.rebuild-requires-clause-right
rebuild-requires-clause-right c =
    rw (c.as_slice.ensures.value, c.truncate.ensures.items) (right_cut c.self.inside.row_limit c.self.inside.saved c.self.inside.base.items c.self.inside.performed.items c.self.invariant.0.right)

pub invariant_of-self : goal.invariant_of-self
invariant_of-self c =
    let inside = c.self.invariant.4 in
    let many : length c.truncate.new.self.items ≡ c.self.inside.saved = ap length c.truncate.ensures.items ∙ length-take-le c.self.inside.saved c.self.inside.performed.items inside in (
      keeps_cut c.self.inside.rows.items c.rebuild.new.rows.items c.self.inside.base.items c.self.inside.performed.items
          c.truncate.new.self.items c.truncate.new.self.items c.self.inside.kept.items c.rebuild.new.kept.items
          c.self.inside.mark c.self.inside.saved_mark c.self.inside.row_limit c.self.inside.op_limit c.self.inside.saved c.self.invariant.0 inside c.truncate.ensures.items refl
          (subst (λ (b : Rows). AreRowsOf c.rebuild.new.rows.items b (reverse c.truncate.new.self.items)) c.as_slice.ensures.value c.rebuild.ensures.rows) c.rebuild.ensures.kept,
      search rules,
      search rules,
      search rules,
      omega (arith, many),
      search rules,
      search rules,
      search rules,
    )
