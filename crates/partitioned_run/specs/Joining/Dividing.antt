-- The calls of a script, which is read once, by partitions.
use Rattle.std.specs.Prelude.{◌≡◌, ℕ, List, length, map, get_or, slice_get, Some, None, Option, Result, IfOk}
use Rattle.partitions.specs.Partitions.{ArePartitions}
use Rattle.partitions.specs.Picking.{picked}
use Rattle.scripts.specs.Reading.{Contents, contents_of}
use Rattle.scripts.specs.declared.script.Call.{Call}
use Rattle.scripts.specs.declared.script.Script.{Script}
use Rattle.script_loading.specs.Loading.{first_unverified, begun, empty_stores}
use Rattle.verifier.specs.Checked.{Checked}
use Rattle.run_ground.specs.declared.ground.Ground.{Ground}
use Rattle.run_ground.specs.declared.stop.Stop.{Stop}
use Rattle.worker_pool.specs.declared.answer.Answer.{Answer}
use Rattle.partitioned_run.specs.declared.answering.PartitionOutcome.{PartitionOutcome}
use Rattle.partitioned_run.specs.declared.dividing.Division.{Division}
use Rattle.partitioned_run.specs.declared.grounds.Start.{Start}
use Rattle.partitioned_run.specs.Logged.{IsKeptBy, IsRunFrom}
use Rattle.partitioned_run.specs.Partitioned.{decl_of, partition_of_call, IsAnsweredBy, IsAnsweredPart}

-- these are the partitions of so many data components, and those of the calls
pub record AreNumbered (dcs : ℕ) (codes : List Checked) (first calls : List Call) (d : Division) : Type 0 where
  pub partitions : ArePartitions dcs (map decl_of codes) d.partitions
  pub first_are : d.first.items ≡ map (partition_of_call d.partitions codes) first
  pub calls_are : d.calls.items ≡ map (partition_of_call d.partitions codes) calls

-- the calls of what a script says are so divided
abbrev pub AreDivided : Contents → Division → Type 0
AreDivided c d = AreNumbered (length c.dcs) (begun c).procs c.first c.calls d

-- those of a script whose procedures, perhaps of an object file, are all accepted
pub record IsDivided (object : Option (List ℕ)) (s : Script) (d : Division) : Type 0 where
  pub accepted : first_unverified object s.procedures.items ≡ None
  pub numbered : AreDivided (contents_of s) d

-- those of one partition are answered on this ground
abbrev pub IsAnsweredOn : Ground → (first calls : List Call) → (first_answers other_answers : List Answer) → Option Ground → Type 0
IsAnsweredOn g first calls first_answers other_answers None = ⊥
IsAnsweredOn g first calls first_answers other_answers (Some behind) =
    IsAnsweredPart g.state g.dcs.items first calls first_answers other_answers behind

abbrev pub IsGroundRun : Contents → Division → ℕ → Ground → PartitionOutcome → Type 0
IsGroundRun c d number g ran =
    IsAnsweredOn g (picked number d.first.items c.first) (picked number d.calls.items c.calls)
    ran.answers.first.items ran.answers.calls.items ran.ground

-- what is there has a journal, whose file has the log
abbrev pub IsKeptIf : Option Ground → Type 0
IsKeptIf None = Unit {0}
IsKeptIf (Some g) = IsKeptBy g

-- those of one partition are answered, or there are none
abbrev pub IsPartitionRun : Contents → Division → ℕ → PartitionOutcome → Type 0
IsPartitionRun c d number ran =
    IsAnsweredBy (begun c) (empty_stores c) (picked number d.first.items c.first) (picked number d.calls.items c.calls)
    ran.answers.first.items ran.answers.calls.items ran.ground

-- the same of one that may go on from what came back
abbrev pub IsRunOf : Contents → Division → ℕ → Option Ground → PartitionOutcome → Type 0
IsRunOf c d number start ran =
    IsRunFrom (begun c) (empty_stores c) start (picked number d.first.items c.first) (picked number d.calls.items c.calls)
    ran.answers.first.items ran.answers.calls.items ran.ground

abbrev pub IsStartRun : Contents → Division → Start → PartitionOutcome → Type 0
IsStartRun c d s ran = IsRunOf c d s.number s.ground ran

-- those of all
abbrev pub AreRun : Contents → Division → List Start → List (Result PartitionOutcome Stop) → Type 0
AreRun c d starts all =
    (length all ≡ length starts)
    × ((p : ℕ) (s : Start) (other : Result PartitionOutcome Stop) → slice_get starts p ≡ Some s → IfOk (get_or all p other) (IsStartRun c d s))
