use Rattle.std.proofs.Common.{arith, ap, length}
use Rattle.std.proofs.lemmas.List.{length-reverse}
use Rattle.data_component.specs.Store.{Store}
use Rattle.data_component.proofs.Serving.{few_rows}
use Rattle.data_component.proofs.dc.Dc.rows.Goals as goal

pub returns-clause-few : goal.returns-clause-few
returns-clause-few c =
    let few = few_rows c.self.inside.rows.items c.self.inside.base.items c.self.inside.performed.items c.self.invariant.0.rows in
    let same = ap length c.as_slice.ensures.value in
    let list = ap (λ (s : Store). length s.list) c.self.view_is in
    let base = ap (λ (s : Store). length s.base) c.self.view_is in
    omega (arith, few, same, list, base, length-reverse c.self.inside.performed.items)
