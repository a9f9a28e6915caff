use Rattle.std.proofs.Common.{◌∙◌, ◌++◌, ◌<◌, ℕ, List, length, ap, arith}
use Rattle.std.specs.Prelude.{string_bytes}
use Rattle.run_calls.specs.AnswerLines.{answer_line}
use Rattle.run_calls.proofs.AnswerLemmas.{one_line}
use Rattle.run_calls.proofs.answer_lines.write_answers.Goals as goal

pub loop-place-preserved : goal.loop-place-preserved
loop-place-preserved c =
    let lt : c.loop-place.place < length c.args.answers.now = omega arith in
    one_line (answer_line c.args.word.now) 0 c.loop-place.place (string_bytes c.args.lines.now)
    (string_bytes c.loop-place.lines) (string_bytes c.push_str.new.self) c.args.answers.now c.loop-place.place _
    (omega arith) lt c.loop-place.invariant
    (c.in_ok-push_str.ensures.bytes ∙ ap (λ (text : List ℕ). string_bytes c.loop-place.lines ++ text) (c.as_str.ensures.value ∙ c.in_ok-line.ensures))
