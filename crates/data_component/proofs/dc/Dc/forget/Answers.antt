use Rattle.std.proofs.Common.{arith, refl, ◌≡◌, ◌≤◌, ◌∙◌, sym, ap, length}
use Rattle.std.specs.Prelude.{reverse}
use Rattle.data_component.specs.Performed.{count}
use Rattle.data_component.specs.Store.{may_forget}
use Rattle.data_component.proofs.Forgetting.{tells}
use Rattle.data_component.proofs.dc.Dc.forget.Goals as goal

pub returns-then-not-are_at_most-clause-told : goal.returns-then-not-are_at_most-clause-told
returns-then-not-are_at_most-clause-told c =
    let many = c.self.invariant.0.rows.count in
    let below = c.if-len-self.false in
    let is = c.len-2.ensures in
    let few : count c.self.inside.base.items (reverse c.self.inside.performed.items) ≤ c.self.inside.row_limit = omega (arith, many, below, is) in
    let whole = c.if-self-len.false in
    let length_is = c.len.ensures in
    let all : c.self.inside.saved ≡ length c.self.inside.performed.items = omega (arith, whole, length_is) in
    sym c.if-not-are_at_most.true ∙ c.are_at_most.ensures
    ∙ tells c.self.inside.base.items c.self.inside.base_mark c.self.inside.performed.items c.self.inside.performed.items
    c.self.inside.mark c.self.inside.saved c.self.inside.saved_mark c.self.inside.incarnation
    c.self.inside.row_limit c.self.inside.op_limit refl all few
    ∙ ap may_forget c.self.view_is

pub returns-clause-told : goal.returns-clause-told
returns-clause-told c =
    let many = c.self.invariant.0.rows.count in
    let below = c.if-len-self.false in
    let is = c.len-2.ensures in
    let few : count c.self.inside.base.items (reverse c.self.inside.performed.items) ≤ c.self.inside.row_limit = omega (arith, many, below, is) in
    let whole = c.if-self-len.false in
    let length_is = c.len.ensures in
    let all : c.self.inside.saved ≡ length c.self.inside.performed.items = omega (arith, whole, length_is) in
    sym c.if-not-are_at_most.false ∙ c.are_at_most.ensures
    ∙ tells c.self.inside.base.items c.self.inside.base_mark c.self.inside.performed.items c.self.inside.performed.items
    c.self.inside.mark c.self.inside.saved c.self.inside.saved_mark c.self.inside.incarnation
    c.self.inside.row_limit c.self.inside.op_limit refl all few
    ∙ ap may_forget c.self.view_is
