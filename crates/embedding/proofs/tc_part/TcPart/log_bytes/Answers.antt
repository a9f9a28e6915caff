use Rattle.std.proofs.Common.{List, refl, sym, ap, ◌∙◌}
use Rattle.std.specs.Prelude.{reverse, slice_get}
use Rattle.tc_log.specs.declared.event.Event.{Event}
use Rattle.tc_log.specs.Entered.{seen}
use Rattle.embedding.specs.Serving.{NoMemory}
use Rattle.embedding.proofs.tc_part.TcPart.log_bytes.Goals as goal

pub returns-in-Err-clause-why : goal.returns-in-Err-clause-why
returns-in-Err-clause-why c = λ _.
    NoMemory refl (seen c.in-Some.event)
    (sym (c.in-Some.ensures ∙ ap (λ (es : List Event). slice_get (reverse es) c.args.frame.now.place) c.log.ensures))
