use Rattle.std.proofs.Common.{◌≡◌, length}
use Rattle.std.specs.Prelude.{is_some}
use Rattle.scripts.specs.Reading.{contents_of}
use Rattle.script_loading.specs.Loading.{begun, empty_stores}
use Rattle.partitioned_run.specs.Logged.{AreStarts}
use Rattle.partitioned_run.proofs.recovering.starts_of.Given as goal

abbrev pub invariant-partitions : goal.invariant-partitions
invariant-partitions g l =
    (length l.starts.items ≡ l.number) ×
    AreStarts (is_some l.task.log) (begun (contents_of l.task.script.now)) (empty_stores (contents_of l.task.script.now)) l.task.division.now.partitions l.starts.items
