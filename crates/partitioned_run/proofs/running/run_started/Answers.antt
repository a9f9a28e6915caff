use Rattle.std.proofs.Common.{◌∙◌, ap, ℕ, max, sym}
use Rattle.std.specs.Prelude.{is_some, string_bytes}
use Rattle.std.proofs.lemmas.List.{length-map}
use Rattle.scripts.specs.Reading.{contents_of}
use Rattle.script_loading.specs.Loading.{empty_store, begun, empty_stores}
use Rattle.run_ground.specs.declared.stop.Stop.TheVariants.{NoThread}
use Rattle.partitioned_run.specs.Logged.{front_lines}
use Rattle.partitioned_run.proofs.RecoveringLemmas.{kept_starts}
use Rattle.partitioned_run.proofs.ReportingLemmas.{all_run, ran_apart, stopped_so}
use Rattle.partitioned_run.proofs.running.run_started.Goals as goal

pub answer_partitions-requires-clause-kept : goal.answer_partitions-requires-clause-kept
answer_partitions-requires-clause-kept g c κs within =
    let s = contents_of c.args.task.script.now in
    kept_starts (is_some c.args.task.log) (begun s) (empty_stores s) c.args.task.division.now.partitions c.args.starts.items c.requires.starts

pub reported_if_named-report-requires-clause-run : goal.reported_if_named-report-requires-clause-run
reported_if_named-report-requires-clause-run g c =
    let s = contents_of c.args.task.script.now in
    record {
      starts = c.args.starts.items;
      are = c.requires.starts;
      told = c.in-Ok.ensures ∙ ap front_lines c.as_slice.ensures.value;
      run = all_run s c.args.task.division.now c.args.starts.items c.in_ok-ran.ran.items c.in-Ok-outcomes_of.all
          (c.requires.each ∙ ap (λ (n : ℕ). max n 1) (sym (length-map s.dcs empty_store))) (λ p start is. (c.requires.starts p start is).0)
          c.in_ok-ran.ensures c.in-Ok-outcomes_of.ensures;
    }

pub returns-in-Ok-outcomes_of : goal.returns-in-Ok-outcomes_of
returns-in-Ok-outcomes_of g c = λ range.
    let m = c.args.task.manner in
    ran_apart (is_some c.args.task.log) (contents_of c.args.task.script.now) m.workers m.tries m.audit m.strict c.reported_if_named-report.result range c.reported_if_named-report.ensures

pub returns-in-Err-Stopped-default-NoThread : goal.returns-in-Err-Stopped-default-NoThread
returns-in-Err-Stopped-default-NoThread g c = λ range.
    let m = c.args.task.manner in
    let stopped = c.in_ok-stopped-in-Err-Stopped-default-NoThread in
    stopped_so (is_some c.args.task.log) (contents_of c.args.task.script.now) m.workers m.tries m.audit m.strict NoThread stopped.field-0.status
    (string_bytes stopped.field-0.lines) range.1 stopped.ensures.lines stopped.ensures.status
