-- What `world` prints of a script, and its exit status.
use Rattle.std.specs.Prelude.{◌≡◌, ℕ, Bool, true, false, ◌&&◌, List, [], ◌++◌, length, map, reverse, Option, Some, None}
use Rattle.std.specs.List.{flat_map}
use Rattle.tc_log.specs.Printed.{printed}
use Rattle.tc_log.specs.declared.event.Event.{Event}
use Rattle.scripts.specs.Reading.{Contents}
use Rattle.data_component.specs.Store.{Store}
use Rattle.tc_core.specs.Core.{Core}
use Rattle.tc_world.specs.Whole.{Whole}
use Rattle.state_lines.specs.AuditLines.{AddsIf, AddsStateAudit}
use Rattle.script_loading.specs.Loading.{Beginning, with_procedures, empty_core, empty_store}
use Rattle.state_lines.specs.RowLines.{AddsRowLines}
use Rattle.world_command.specs.Stepping.{AreTaken, log_lines}
use Rattle.world_command.specs.declared.world.Behind.{Behind}

-- its procedures are loaded, its data components are empty, and nothing was sent
abbrev pub begun : Contents → Whole
begun c = record {
  core = with_procedures (empty_core (length c.dcs)) c.procedures;
  dcs = map empty_store c.dcs;
  copies = [];
  replies = [];
  news = [];
}

abbrev pub status_of_steps : Bool → ℕ
status_of_steps true = 0
status_of_steps false = 1

-- each event's bytes on a line, the oldest first, where they are wanted
abbrev pub logged : Bool → List Event → List ℕ
logged true events = log_lines (flat_map printed (reverse events))
logged false events = []

-- behind the lines of steps, which were all possible or not, stand those of the rows that are left, of an audit and of the log; the
-- status says whether all steps were possible and the audit finds nothing wrong
pub record IsLeft (core : Core) (dcs : List Store) (behind : Behind) (all : Bool) (stepped : List ℕ) (status : ℕ) (lines : List ℕ)
    : Type 0 where
  pub kept : List ℕ
  pub rows : AddsRowLines dcs stepped kept
  pub found : List ℕ
  pub sound : Bool
  pub audit : AddsIf behind.audit kept found sound (AddsStateAudit core.sites core.procs core.events dcs kept found sound)
  pub lines_are : lines ≡ found ++ logged behind.log core.events
  pub status_is : status ≡ status_of_steps (all && sound)

-- the lines of the steps, and behind them of what is left
pub record IsStepped (contents : Contents) (behind : Behind) (status : ℕ) (lines : List ℕ) : Type 0 where
  pub end : Whole
  pub all : Bool
  pub stepped : List ℕ
  pub taken : AreTaken (begun contents) contents.steps end [] stepped all
  pub left : IsLeft end.core end.dcs behind all stepped status lines

abbrev pub IsWorldBy : Option (List ℕ) → Contents → Behind → ℕ → List ℕ → Type 0
IsWorldBy (Some refusal) contents behind status lines = (status ≡ 1) × (lines ≡ refusal)
IsWorldBy None contents behind status lines = IsStepped contents behind status lines

-- a script that is refused is not begun
abbrev pub IsWorld : Behind → Beginning → ℕ → List ℕ → Type 0
IsWorld behind b status lines = IsWorldBy b.refusal b.contents behind status lines
