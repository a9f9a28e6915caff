use Rattle.std.proofs.Common.{◌+◌, ◌<◌, length, arith}
use Rattle.std.specs.Prelude.{string_bytes}
use Rattle.run_calls.specs.AnswerLines.{call_line}
use Rattle.run_calls.proofs.AnswerLemmas.{one_line}
use Rattle.run_calls.proofs.answer_lines.write_calls.Goals as goal

pub loop-index-preserved : goal.loop-index-preserved
loop-index-preserved c =
    let new = c.split_at.result.1.now in
    let lt : c.loop-index.index < length new = omega arith in
    one_line (call_line c.args.results c.args.state.now.procs c.args.state.now.events) c.args.before (c.args.before + c.loop-index.index)
    (string_bytes c.args.lines.now) (string_bytes c.loop-index.lines) (string_bytes c.write_call.new.lines) new c.loop-index.index _ (omega arith) lt
    c.loop-index.invariant c.in_ok-write_call.ensures
