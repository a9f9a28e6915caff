-- What the calls of a script print when those of each partition are run apart, and the exit status.
use Rattle.std.specs.Prelude.{◌≡◌, ℕ, ◌+◌, Bool, true, false, ◌&&◌, if◌then◌else◌, List, [], ◌∷◌, ◌++◌, length, map, get_or, max, slice_get}
use Rattle.std.specs.Prelude.{Option, Some, None, codes, decimal}
use Rattle.std.specs.List.{list_any}
use Rattle.access_slots.specs.Declaration.{Declaration}
use Rattle.data_component.specs.Store.{Store}
use Rattle.partitions.specs.Partitions.{ArePartitions, partition_at, partition_of}
use Rattle.partitions.specs.Picking.{picked}
use Rattle.scripts.specs.Reading.{Contents}
use Rattle.scripts.specs.declared.script.Call as said
use Rattle.state_lines.specs.AuditLines.{AddsIf, AddsAudit}
use Rattle.state_lines.specs.RowLines.{AddsRowLines}
use Rattle.tc_core.specs.Core.{Core}
use Rattle.tc_core.specs.declared.state.Call.{Call}
use Rattle.verifier.specs.Checked.{Checked}
use Rattle.worker_pool.specs.Faults.{InRange}
use Rattle.worker_pool.specs.declared.answer.Answer.{Answer}
use Rattle.run_ground.specs.declared.ground.Ground.{Ground}
use Rattle.run_ground.specs.declared.stop.Stop.{Stop}
use Rattle.run_calls.specs.AnswerLines.{answer_lines, fault_line}
use Rattle.run_calls.specs.Answered.{AreCallsOf, AreAnswered, AreServed, is_want_of_memory, run_status}
use Rattle.script_loading.specs.Loading.{begun, empty_stores}
use Rattle.run_calls.specs.Stops.{Stops}

-- ---- which calls are of which partition

abbrev pub decl_of : Checked → Declaration
decl_of q = q.decl

abbrev pub partition_of_code : List ℕ → Option Checked → ℕ
partition_of_code numbers None = 0
partition_of_code numbers (Some q) = partition_of numbers q.decl.slots

-- that of the call's procedure
abbrev pub partition_of_call : List ℕ → List Checked → said.Call → ℕ
partition_of_call numbers codes call = partition_of_code numbers (slice_get codes call.procedure)

-- ---- the calls of one partition

-- the calls that these lines say are answered so, on a state and data components of their own that begin so; behind them these are so
pub record IsAnsweredPart (start : Core) (dcs : List Store) (first calls : List said.Call) (first_answers other_answers : List Answer) (behind : Ground) : Type 0 where
  pub first_calls : List Call
  pub first_are : AreCallsOf first first_calls
  pub other_calls : List Call
  pub others_are : AreCallsOf calls other_calls
  pub answered : AreAnswered start first_calls other_calls first_answers other_answers behind.state
  pub served : AreServed dcs behind.dcs.items

-- or there are none
abbrev pub IsAnsweredBy : Core → List Store → (first calls : List said.Call) → (first_answers other_answers : List Answer) → Option Ground → Type 0
IsAnsweredBy start dcs first calls first_answers other_answers None =
    (first ≡ []) × (calls ≡ []) × (first_answers ≡ []) × (other_answers ≡ [])
IsAnsweredBy start dcs first calls first_answers other_answers (Some behind) =
    IsAnsweredPart start dcs first calls first_answers other_answers behind

-- ---- what is printed behind the answers

-- a data component behind the calls of a partition: as it began where there are none
abbrev pub dc_behind : Option Ground → ℕ → Store → Store
dc_behind None dc empty = empty
dc_behind (Some behind) dc empty = get_or behind.dcs.items dc empty

-- behind those of its own partition
abbrev pub kept_dc : List ℕ → List (Option Ground) → ℕ → Store → Store
kept_dc numbers grounds dc empty = dc_behind (get_or grounds (partition_at numbers dc) None) dc empty

-- of data components from this number on
abbrev pub kept_from : List ℕ → List (Option Ground) → ℕ → List Store → List Store
kept_from numbers grounds dc [] = []
kept_from numbers grounds dc (empty ∷ dcs) = kept_dc numbers grounds dc empty ∷ kept_from numbers grounds (dc + 1) dcs

abbrev pub kept_dcs : List ℕ → List (Option Ground) → List Store → List Store
kept_dcs numbers grounds dcs = kept_from numbers grounds 0 dcs

-- a line that names a partition
abbrev pub partition_line : ℕ → List ℕ
partition_line number = codes "partition " ++ (decimal number ++ codes "\n")

-- where it is wanted, what an audit finds of a partition with calls, behind the line that names it
abbrev pub AddsAuditOf : Bool → ℕ → Option Ground → (old new : List ℕ) → Bool → Type 0
AddsAuditOf audit p None old new sound = (new ≡ old) × (sound ≡ true)
AddsAuditOf audit p (Some behind) old new sound =
    AddsIf audit old new sound (AddsAudit behind.state.procs behind.state.events behind.dcs.items (old ++ partition_line p) new sound)

-- of all, one after another, the first of which has this number; the last value says whether nothing is wrong
abbrev pub AddsAuditsFrom : Bool → ℕ → List (Option Ground) → (old new : List ℕ) → Bool → Type 0
AddsAuditsFrom audit p [] old new sound = (new ≡ old) × (sound ≡ true)
AddsAuditsFrom audit p (behind ∷ grounds) old new sound =
    (middle : List ℕ) × (first : Bool) × (others : Bool) × AddsAuditOf audit p behind old middle first
    × AddsAuditsFrom audit (p + 1) grounds middle new others × (sound ≡ (first && others))

abbrev pub AddsAudits : Bool → List (Option Ground) → (old new : List ℕ) → Bool → Type 0
AddsAudits audit grounds old new sound = AddsAuditsFrom audit 0 grounds old new sound

-- ---- the report

-- the calls of each partition are answered apart, as this says of each, and their answers are those of the calls' places; behind the lines in
-- front those of all answers are printed in the order of the calls, none of which is want of memory, then the rows of each data component behind
-- the calls of its partition, and then, where it is wanted, what an audit finds of each partition that came to something
pub record AreRunApart (IsAnswered : ℕ → (first calls : List said.Call) → (first_answers other_answers : List Answer) → Option Ground → Type 0)
    (front : List ℕ) (procs : List Checked) (dcs : List Store) (first calls : List said.Call) (audit strict : Bool) (status : ℕ) (lines : List ℕ)
    : Type 0 where
  pub numbers : List ℕ
  pub partitions : ArePartitions (length dcs) (map decl_of procs) numbers
  pub first_answers : List Answer
  pub first_each : length first_answers ≡ length first
  pub other_answers : List Answer
  pub others_each : length other_answers ≡ length calls
  pub grounds : List (Option Ground)
  pub each : length grounds ≡ max (length dcs) 1
  pub apart : (p : ℕ) (behind : Option Ground) → slice_get grounds p ≡ Some behind
      → IsAnswered p (picked p (map (partition_of_call numbers procs) first) first)
      (picked p (map (partition_of_call numbers procs) calls) calls)
      (picked p (map (partition_of_call numbers procs) first) first_answers)
      (picked p (map (partition_of_call numbers procs) calls) other_answers) behind
  pub ample : (list_any is_want_of_memory first_answers ≡ false) × (list_any is_want_of_memory other_answers ≡ false)
  pub kept : List ℕ
  pub rows : AddsRowLines (kept_dcs numbers grounds dcs)
      (front ++ (answer_lines (codes "first") first_answers ++ answer_lines (codes "call") other_answers)) kept
  pub sound : Bool
  pub found : AddsAudits audit grounds kept lines sound
  pub status_is : status ≡ run_status strict other_answers sound

-- they are run so, whatever they are answered, or it is printed why not
pub data IsCallsRunApart (Run : Type 0) (workers tries status : ℕ) (lines : List ℕ) : Type 0 where
  Ran : InRange workers tries → Run → IsCallsRunApart Run workers tries status lines
  Stopped : (stop : Stop) → Stops false workers tries stop → status ≡ 1 → fault_line stop ≡ Some lines
      → IsCallsRunApart Run workers tries status lines

-- those of a script, none of whose partitions has a log's file: each begins with a state in which nothing has happened
abbrev pub IsRunApart : Contents → Bool → Bool → ℕ → List ℕ → Type 0
IsRunApart c audit strict status lines =
    AreRunApart (λ _. IsAnsweredBy (begun c) (empty_stores c)) [] (begun c).procs (empty_stores c) c.first c.calls audit strict status lines
