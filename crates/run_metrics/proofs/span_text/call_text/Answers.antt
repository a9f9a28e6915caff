use Rattle.std.proofs.Common.{◌∙◌, ◌++◌, ℕ, List, ap}
use Rattle.std.specs.Prelude.{codes}
use Rattle.run_metrics.specs.Spans.{timed_text, call_end}
use Rattle.run_metrics.proofs.span_text.call_text.Goals as goal

pub returns : goal.returns
returns c =
    c.in_ok-push_str.ensures.bytes
    ∙ ap (λ (text : List ℕ). text ++ c.as_str.result.now) c.in_ok-text.ensures
    ∙ ap (λ (text : List ℕ). timed_text c.args.procedure.now (codes "call") c.args.span c.args.lane ++ text)
    (c.as_str.ensures.value ∙ c.in_ok-end.ensures ∙ ap (call_end c.args.call.place) c.name.ensures)
