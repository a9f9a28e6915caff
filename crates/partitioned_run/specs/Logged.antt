-- What the calls of a script print when those of each partition are run apart, behind what a file of its own has.
use Rattle.std.specs.Prelude.{◌≡◌, ◌⊎◌, ℕ, ◌==◌, Bool, true, false, ◌&&◌, List, [], ◌∷◌, ◌++◌, map, slice_get, length}
use Rattle.std.specs.Prelude.{Option, Some, None, is_some, string_bytes}
use Rattle.std.specs.List.{flat_map}
use Rattle.std.specs.declared.alloc.Global.{Global}
use Rattle.std.specs.declared.string.String.{String}
use Rattle.data_component.specs.Store.{Store}
use Rattle.log_file.specs.Bytes.{Rows}
use Rattle.partitions.specs.Partitions.{partition_at, ArePartitions}
use Rattle.scripts.specs.Reading.{Contents}
use Rattle.scripts.specs.declared.script.Call as said
use Rattle.script_loading.specs.Loading.{Beginning, begun, empty_stores}
use Rattle.tc_core.specs.Core.{Core}
use Rattle.tc_log.specs.declared.event.Event.{Event}
use Rattle.worker_pool.specs.declared.answer.Answer.{Answer}
use Rattle.run_ground.specs.declared.ground.Ground.{Ground}
use Rattle.run_ground.specs.Kept.{FileJournal, KeepsLog}
use Rattle.run_log.specs.Recovering.{IsLogFor, IsLogRefusal, IsBackTo}
use Rattle.partitioned_run.specs.declared.grounds.Start.{Start}
use Rattle.partitioned_run.specs.Belonging.{other_line, IsLogOfPartition, IsLogOfOther}
use Rattle.partitioned_run.specs.Partitioned.{decl_of, partition_line, AreRunApart, IsAnsweredBy, IsAnsweredPart, IsCallsRunApart, IsRunApart}

-- ---- what comes back

-- the lines of what came back stand behind it; of a file that was new there is nothing to tell
abbrev pub front_by : ℕ → List ℕ → List ℕ
front_by number [] = []
front_by number (byte ∷ lines) = partition_line number ++ (byte ∷ lines)

abbrev pub front_of : Start → List ℕ
front_of s = front_by s.number (string_bytes s.lines)

abbrev pub front_lines : List Start → List ℕ
front_lines starts = flat_map front_of starts

-- this came back from a file whose log is that of this partition, with these lines, and its journal has kept its log
pub record IsBackAt (start : Core) (empties : List Store) (numbers : List ℕ) (partition : ℕ) (g : Ground) (lines : String Global) : Type 0 where
  pub journal : FileJournal
  pub journal_is : g.journal ≡ Some journal
  pub back : IsBackTo start empties g.state g.dcs.items (record { journal = journal; lines = lines })
  pub own : IsLogOfPartition numbers start.procs partition back.base back.log

-- where a partition has a file, something came back from there, and else nothing
abbrev pub IsStart : (start : Core) → (empties : List Store) → (numbers : List ℕ) → (partition : ℕ) → (has_file : Bool) → Option Ground → String Global
    → Type 0
IsStart start empties numbers partition false None lines = string_bytes lines ≡ []
IsStart start empties numbers partition false (Some g) lines = ⊥
IsStart start empties numbers partition true None lines = ⊥
IsStart start empties numbers partition true (Some g) lines = IsBackAt start empties numbers partition g lines

-- each partition of these numbers has a file, where logs are kept
abbrev pub AreStarts : (keeps : Bool) → Core → List Store → (numbers : List ℕ) → List Start → Type 0
AreStarts keeps start empties numbers starts = (p : ℕ) (s : Start) → slice_get starts p ≡ Some s
    → (s.number ≡ p) × IsStart start empties numbers p (keeps && (partition_at numbers p == p)) s.ground s.lines

-- the file of a partition is refused as a log's file is by itself, or since its log is that of another partition
pub data IsFileRefusal (start : Core) (empties : List Store) (numbers : List ℕ) (partition : ℕ) (lines : List ℕ) : Type 0 where
  Itself : IsLogRefusal start empties lines → IsFileRefusal start empties numbers partition lines
  Others : (file : List ℕ) (base : Option Rows) (log : List Event) (other : ℕ) → IsLogFor start file base log
      → IsLogOfOther numbers start.procs partition base log other → lines ≡ other_line other → IsFileRefusal start empties numbers partition lines

-- ---- the calls of one partition

-- there is a journal, whose file has the log
abbrev pub IsKeptBy : Ground → Type 0
IsKeptBy g = (is_some g.journal ≡ true) × KeepsLog g.journal g.state.events

abbrev pub IsIdle : Ground → (first calls : List said.Call) → (first_answers other_answers : List Answer) → Ground → Type 0
IsIdle g first calls first_answers other_answers behind =
    (first ≡ []) × (calls ≡ []) × (first_answers ≡ []) × (other_answers ≡ []) × (behind ≡ g)

-- calls are answered on what came back, or there are none, and it stays as it is; its file has the log behind the last
pub record HasGoneOn (g : Ground) (first calls : List said.Call) (first_answers other_answers : List Answer) (behind : Ground) : Type 0 where
  pub run : IsAnsweredPart g.state g.dcs.items first calls first_answers other_answers behind ⊎ IsIdle g first calls first_answers other_answers behind
  pub kept : IsKeptBy behind

-- what came back goes on; where nothing did, calls are answered as without a file
abbrev pub IsRunFrom : Core → List Store → Option Ground → (first calls : List said.Call) → (first_answers other_answers : List Answer) → Option Ground
    → Type 0
IsRunFrom start dcs None first calls first_answers other_answers behind = IsAnsweredBy start dcs first calls first_answers other_answers behind
IsRunFrom start dcs (Some g) first calls first_answers other_answers None = ⊥
IsRunFrom start dcs (Some g) first calls first_answers other_answers (Some behind) = HasGoneOn g first calls first_answers other_answers behind

-- each partition's, by what it goes on from
abbrev pub AreRunFrom : Core → List Store → List Start → ℕ → (first calls : List said.Call) → (first_answers other_answers : List Answer) → Option Ground
    → Type 0
AreRunFrom start dcs starts p first calls first_answers other_answers behind =
    (s : Start) → slice_get starts p ≡ Some s → IsRunFrom start dcs s.ground first calls first_answers other_answers behind

-- ---- the report

-- each partition comes back from its file, which is told before the answers, and its calls are run from there
pub record AreRunBehind (c : Contents) (audit strict : Bool) (status : ℕ) (lines : List ℕ) : Type 0 where
  pub starts : List Start
  pub run : AreRunApart (AreRunFrom (begun c) (empty_stores c) starts) (front_lines starts) (begun c).procs (empty_stores c) c.first c.calls audit strict status lines
  pub each : length starts ≡ length run.grounds
  pub back : AreStarts true (begun c) (empty_stores c) run.numbers starts

-- no call is begun, since the file of a partition is refused; or they are run
pub data IsRunBehind (c : Contents) (workers tries : ℕ) (audit strict : Bool) (status : ℕ) (lines : List ℕ) : Type 0 where
  Refused : (numbers : List ℕ) → ArePartitions (length (empty_stores c)) (map decl_of (begun c).procs) numbers → (p : ℕ) (refusal : List ℕ)
      → IsFileRefusal (begun c) (empty_stores c) numbers p refusal → status ≡ 1 → lines ≡ partition_line p ++ refusal
      → IsRunBehind c workers tries audit strict status lines
  Behind : IsCallsRunApart (AreRunBehind c audit strict status lines) workers tries status lines → IsRunBehind c workers tries audit strict status lines

-- the calls of a script, with files or without any
abbrev pub IsContentsRun : (keeps : Bool) → Contents → ℕ → ℕ → Bool → Bool → ℕ → List ℕ → Type 0
IsContentsRun false c workers tries audit strict status lines = IsCallsRunApart (IsRunApart c audit strict status lines) workers tries status lines
IsContentsRun true c workers tries audit strict status lines = IsRunBehind c workers tries audit strict status lines

abbrev pub IsPartitionedBy : (keeps : Bool) → Option (List ℕ) → Contents → ℕ → ℕ → Bool → Bool → ℕ → List ℕ → Type 0
IsPartitionedBy keeps (Some refusal) contents workers tries audit strict status lines = (status ≡ 1) × (lines ≡ refusal)
IsPartitionedBy keeps None contents workers tries audit strict status lines = IsContentsRun keeps contents workers tries audit strict status lines

-- of a script that is refused no file is opened, and no call is made
abbrev pub IsPartitionedRun : (keeps : Bool) → ℕ → ℕ → Bool → Bool → Beginning → ℕ → List ℕ → Type 0
IsPartitionedRun keeps workers tries audit strict b status lines = IsPartitionedBy keeps b.refusal b.contents workers tries audit strict status lines
