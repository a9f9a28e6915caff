-- What the calls of all partitions came to, taken apart.
use Rattle.std.specs.Prelude.{◌≡◌, ℕ, Bool, true, false, List, length, map, max, Option, Some, None, slice_get, string_bytes, Result, Ok}
use Rattle.std.specs.Global.{Vec}
use Rattle.run_ground.specs.declared.ground.Ground.{Ground}
use Rattle.worker_pool.specs.declared.answer.Answer.{Answer}
use Rattle.scripts.specs.Reading.{Contents, contents_of}
use Rattle.script_loading.specs.Loading.{Beginning, first_unverified, begun, empty_stores}
use Rattle.script_loading.specs.declared.loading.Acceptance.{Acceptance}
use Rattle.script_loading.specs.declared.loading.Acceptance.TheVariants.{Accepted, Refused}
use Rattle.run_ground.specs.declared.stop.Stop.{Stop}
use Rattle.partitions.specs.Picking.{picked}
use Rattle.partitioned_run.specs.declared.grounds.Start.{Start}
use Rattle.partitioned_run.specs.Logged.{front_lines, AreRunBehind, AreRunFrom, AreStarts}
use Rattle.partitioned_run.specs.Partitioned.{IsRunApart}
use Rattle.partitioned_run.specs.declared.dividing.Division.{Division}
use Rattle.partitioned_run.specs.declared.answering.PartitionOutcome.{PartitionOutcome}
use Rattle.partitioned_run.specs.declared.reporting.Outcomes.{Outcomes}

-- each in the order of the partitions
abbrev pub AreAll : List PartitionOutcome → Outcomes → Type 0
AreAll runs all =
    (all.grounds.items ≡ map (λ (ran : PartitionOutcome). ran.ground) runs) × (all.first.items ≡ map (λ (ran : PartitionOutcome). ran.answers.first) runs)
    × (all.calls.items ≡ map (λ (ran : PartitionOutcome). ran.answers.calls) runs)

-- what all runs came to, none of which was stopped
pub record AreAllOf (ran : List (Result PartitionOutcome Stop)) (all : Outcomes) : Type 0 where
  pub runs : List PartitionOutcome
  pub oks : ran ≡ map Ok runs
  pub together : AreAll runs all

-- a script may be run, all of whose procedures are loaded; else its refusal is there
abbrev pub MayBeRun : Option (List ℕ) → Beginning → Acceptance → Type 0
MayBeRun object b (Accepted a) =
    (first_unverified object a.script.procedures.items ≡ None) × (a.state ≡ begun (contents_of a.script)) × (b.refusal ≡ None)
    × (contents_of a.script ≡ b.contents)
MayBeRun object b (Refused report) = (b.refusal ≡ Some (string_bytes report.lines)) × (report.status ≡ 1)

-- those of each partition, by what it goes on from
pub record AreAllRun (c : Contents) (d : Division) (starts : List Start) (all : Outcomes) : Type 0 where
  pub count : length starts ≡ max (length (empty_stores c)) 1
  pub grounds : length all.grounds.items ≡ length starts
  pub first : length all.first.items ≡ length all.grounds.items
  pub calls : length all.calls.items ≡ length all.grounds.items
  pub each : (p : ℕ) (behind : Option Ground) (first_answers other_answers : Vec Answer) → slice_get all.grounds.items p ≡ Some behind
      → slice_get all.first.items p ≡ Some first_answers → slice_get all.calls.items p ≡ Some other_answers
      → AreRunFrom (begun c) (empty_stores c) starts p (picked p d.first.items c.first) (picked p d.calls.items c.calls)
      first_answers.items other_answers.items behind

-- those of each partition, behind the lines of what came back
pub record HaveRun (keeps : Bool) (c : Contents) (d : Division) (front : List ℕ) (all : Outcomes) : Type 0 where
  pub starts : List Start
  pub are : AreStarts keeps (begun c) (empty_stores c) d.partitions starts
  pub told : front ≡ front_lines starts
  pub run : AreAllRun c d starts all

-- with or without files
abbrev pub IsRunSo : (keeps : Bool) → Contents → Bool → Bool → ℕ → List ℕ → Type 0
IsRunSo false c audit strict status lines = IsRunApart c audit strict status lines
IsRunSo true c audit strict status lines = AreRunBehind c audit strict status lines
