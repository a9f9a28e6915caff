use Rattle.std.proofs.Common.{◌∙◌, ◌+◌, ◌++◌, ◌<◌, ℕ, List, length, ap, arith}
use Rattle.std.specs.Prelude.{string_bytes, codes}
use Rattle.run_calls.specs.AnswerLines.{answer_line}
use Rattle.run_calls.proofs.AnswerLemmas.{one_line}
use Rattle.run_command.proofs.parts.write_first.Goals as goal

pub loop-index-preserved : goal.loop-index-preserved
loop-index-preserved c =
    let new = c.split_at.result.1.now in
    let lt : c.loop-index.index < length new = omega arith in
    one_line (answer_line (codes "first")) c.args.before (c.args.before + c.loop-index.index) (string_bytes c.args.lines.now)
    (string_bytes c.loop-index.lines) (string_bytes c.push_str.new.self) new c.loop-index.index _
    (omega arith) lt c.loop-index.invariant
    (c.in_ok-push_str.ensures.bytes ∙ ap (λ (text : List ℕ). string_bytes c.loop-index.lines ++ text) (c.as_str.ensures.value ∙ c.in_ok-line.ensures))
