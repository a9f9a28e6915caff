use Rattle.std.proofs.Common.{◌≡◌, ◌∙◌}
use Rattle.std.specs.Prelude.{is_some}
use Rattle.std.proofs.lemmas.Result.{err_from_is_err_and}
use Rattle.run_calls.proofs.KeptLemmas.{keeps_on, still_there}
use Rattle.run_calls.proofs.StopLemmas.{listed_stops, first_stops, then_stops}
use Rattle.run_calls.proofs.answering.answer_all.Goals as goal

pub returns-in_err-report-clause-fault : goal.returns-in_err-report-clause-fault
returns-in_err-report-clause-fault g c =
    let m = c.args.input.manner in
    let stop = c.in_err-report.field-0.0 in
    let ran = c.run-journal in
    let list = listed_stops c.args.journal c.args.state 1 m.tries ran.result.1 stop ran.ensures.which c.in_err-report.ensures.fault in
    let stops = first_stops c.args.state (is_some c.args.journal) m.workers m.tries stop list in
    let p = err_from_is_err_and c.from_residual.result c.from_residual.ensures.1 in
    rw (p.1, p.2) stops

pub returns-in_err-report-2-clause-fault : goal.returns-in_err-report-2-clause-fault
returns-in_err-report-2-clause-fault g c =
    let m = c.args.input.manner in
    let stop = c.in_err-report-2.field-0.0 in
    let ran = c.run-journal in
    let one = c.in_ok-report.ensures.report in
    let then = rw one.1 at c.run-journal-2.ensures in
    let state = c.in_ok-report.report.state in
    let list = listed_stops ran.result.0 state m.workers m.tries c.run-journal-2.result.1 stop then.which c.in_err-report-2.ensures.fault in
    let there = still_there c.args.journal ran.result.0 ran.ensures.goes_on in
    let stops = then_stops state (is_some c.args.journal) m.workers m.tries stop (rw one.0 at ran.ensures.which) (rw there at list) in
    let p = err_from_is_err_and c.from_residual-in_err-report-2.result c.from_residual-in_err-report-2.ensures.1 in
    rw (p.1, p.2) stops

pub returns-clause-answered : goal.returns-clause-answered
returns-clause-answered g c = record {
  middle = c.in_ok-report.report.state;
  first_run = rw c.in_ok-report.ensures.report.0 at c.run-journal.ensures.report;
  calls_run = rw c.in_ok-report-2.ensures.report.0 at c.run-journal-2.ensures.report;
}

pub returns-clause-kept : goal.returns-clause-kept
returns-clause-kept g c = λ was.
    let ran = c.run-journal in
    let one = c.in_ok-report.ensures.report in
    let two = c.in_ok-report-2.ensures.report in
    let then = rw one.1 at c.run-journal-2.ensures in
    let middle = c.in_ok-report.report.state.events in
    let last = c.in_ok-report-2.report.state.events in
    let first = keeps_on c.args.journal ran.result.0 c.args.state.events middle (rw one.0 at ran.ensures.kept) ran.ensures.goes_on was in
    rw two.1 (keeps_on ran.result.0 c.run-journal-2.result.0 middle last (rw two.0 at then.kept) then.goes_on first)

pub returns-clause-same : goal.returns-clause-same
returns-clause-same g c =
    let ran = c.run-journal in
    let then = rw c.in_ok-report.ensures.report.1 at c.run-journal-2.ensures in
    rw c.in_ok-report-2.ensures.report.1
    (still_there ran.result.0 c.run-journal-2.result.0 then.goes_on ∙ still_there c.args.journal ran.result.0 ran.ensures.goes_on)

pub returns-clause-range : goal.returns-clause-range
returns-clause-range g c = rw c.in_ok-report-2.ensures.report.0 at c.run-journal-2.ensures.which
