-- The steps towards calls that go on from what came back of each partition.
use Rattle.std.specs.Prelude.{◌≡◌, ℕ, ◌==◌, Bool, true, ◌&&◌, List, ◌++◌, length, string_bytes}
use Rattle.std.specs.Global.{Vec}
use Rattle.data_component.specs.Store.{Store}
use Rattle.partitions.specs.Partitions.{partition_at}
use Rattle.report_texts.specs.declared.output.Output.{Output}
use Rattle.script_loading.specs.Loading.{begun, empty_stores}
use Rattle.run_log.specs.declared.recovering.Recovery.{Recovery}
use Rattle.run_log.specs.declared.recovering.Recovery.TheVariants.{Ready, Refused}
use Rattle.scripts.specs.Reading.{Contents}
use Rattle.tc_core.specs.Core.{Core}
use Rattle.partitioned_run.specs.declared.grounds.Start.{Start}
use Rattle.partitioned_run.specs.Logged.{AreStarts, IsFileRefusal, IsStart}
use Rattle.partitioned_run.specs.Partitioned.{partition_line}

-- the file of a partition is refused
abbrev pub IsRefusedAt : Core → List Store → (numbers : List ℕ) → ℕ → Output → Type 0
IsRefusedAt start empties numbers number report = (report.status ≡ 1)
    × ((refusal : List ℕ) × IsFileRefusal start empties numbers number refusal × (string_bytes report.lines ≡ partition_line number ++ refusal))

-- a partition with a file
abbrev pub IsRecoveredFrom : Core → List Store → (numbers : List ℕ) → ℕ → Recovery Start → Type 0
IsRecoveredFrom start empties numbers number (Ready s) = (s.number ≡ number) × IsStart start empties numbers number true s.ground s.lines
IsRecoveredFrom start empties numbers number (Refused report) = IsRefusedAt start empties numbers number report

-- one that may have none
abbrev pub IsRecovered : Contents → (keeps : Bool) → (numbers : List ℕ) → ℕ → Recovery Start → Type 0
IsRecovered c keeps numbers number (Ready s) =
    (s.number ≡ number) × IsStart (begun c) (empty_stores c) numbers number (keeps && (partition_at numbers number == number)) s.ground s.lines
IsRecovered c keeps numbers number (Refused report) = (keeps ≡ true) × IsRefusedAt (begun c) (empty_stores c) numbers number report

-- so many
abbrev pub AreRecovered : Contents → (keeps : Bool) → (numbers : List ℕ) → ℕ → Recovery (Vec Start) → Type 0
AreRecovered c keeps numbers count (Ready starts) =
    (length starts.items ≡ count) × AreStarts keeps (begun c) (empty_stores c) numbers starts.items
AreRecovered c keeps numbers count (Refused report) = (keeps ≡ true) × ((p : ℕ) × IsRefusedAt (begun c) (empty_stores c) numbers p report)
