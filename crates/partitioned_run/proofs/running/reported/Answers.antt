use Rattle.std.specs.Prelude.{is_some, string_bytes}
use Rattle.scripts.specs.Reading.{contents_of}
use Rattle.partitioned_run.proofs.ReportingLemmas.{calls_fit, first_fits, run_so}
use Rattle.partitioned_run.proofs.running.reported.Goals as goal

pub merged-requires : goal.merged-requires
merged-requires c =
    rw (c.as_slice.ensures.value, c.as_slice-2.ensures.value)
    (first_fits (contents_of c.args.task.script.now) c.args.task.division.now c.requires.run.starts c.args.all.now c.requires.divided c.requires.run.run)

pub merged-requires-2 : goal.merged-requires-2
merged-requires-2 c =
    rw (c.as_slice-3.ensures.value, c.as_slice-4.ensures.value)
    (calls_fit (contents_of c.args.task.script.now) c.args.task.division.now c.requires.run.starts c.args.all.now c.requires.divided c.requires.run.run)

pub returns-clause-so : goal.returns-clause-so
returns-clause-so c =
    run_so (is_some c.args.task.log) (contents_of c.args.task.script.now) c.args.task.division.now (string_bytes c.args.front) c.args.all.now
    c.in_ok-first.first.items c.in_ok-calls.calls.items c.args.task.manner.audit c.args.task.manner.strict (string_bytes c.in_ok-lines.lines)
    (string_bytes c.write_kept.new.lines) (string_bytes c.write_audits.new.lines) c.in_ok-sound.sound c.run_status.result c.args.empty.now
    c.requires.divided c.requires.run
    (rw (c.as_slice.ensures.value, c.as_slice-2.ensures.value) at c.in_ok-first.ensures)
    (rw (c.as_slice-3.ensures.value, c.as_slice-4.ensures.value) at c.in_ok-calls.ensures)
    (rw (c.as_slice-5.ensures.value, c.as_slice-6.ensures.value) at (c.lack_memory.ensures c.if-lack_memory.false))
    (rw (c.as_slice-7.ensures.value, c.as_slice-8.ensures.value) at c.in_ok-lines.ensures) c.requires.empty
    (rw c.as_slice-grounds.ensures.value at c.in_ok-write_kept.ensures) (rw c.as_slice-grounds.ensures.value at c.in_ok-sound.ensures)
    (rw c.as_slice-9.ensures.value at c.run_status.ensures)
