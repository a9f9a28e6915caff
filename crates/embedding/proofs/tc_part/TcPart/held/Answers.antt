use Rattle.std.proofs.Common.{List, refl, subst}
use Rattle.tc_core.specs.Core.{Asking}
use Rattle.embedding.specs.Serving.{Held, IsRequestOf}
use Rattle.embedding.proofs.tc_part.TcPart.held.Goals as goal

pub returns-in-Some : goal.returns-in-Some
returns-in-Some c = Held refl (record {
  place = c.in-Some.field-0;
  is = subst (λ (rs : List Asking). IsRequestOf rs c.args.txn c.in-Some.field-0) c.as_slice.ensures.value c.in-Some.ensures.found;
})
