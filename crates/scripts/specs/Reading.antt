-- What a text says as a script: its data components, procedures and further lines, up to its first fault.
use Rattle.std.specs.Prelude.{ℕ, ◌+◌, Bool, ◌&&◌, ◌==◌, nat_lt, if◌then◌else◌, List, [], ◌∷◌, ◌++◌, length, is_some}
use Rattle.std.specs.Prelude.{is_none, Option, Some, None, Result, Ok, Err}
use Rattle.std.specs.List.{list_any, position}
use Rattle.std.specs.Str.{bytes_eq}
use Rattle.std.specs.Str.Lines.{lines}
use Rattle.access_slots.specs.declared.slot.Slot.{Slot}
use Rattle.bpf_encoding.specs.declared.insn.Insn.{Insn}
use Rattle.scripts.specs.declared.fault.ScriptFault.{ScriptFault}
use Rattle.scripts.specs.declared.fault.ScriptFault.TheVariants.{BadLine, NameTaken, NameUnknown, DcUnknown, Order}
use Rattle.scripts.specs.declared.keyword.Command.{Command}
use Rattle.scripts.specs.declared.line.Line.{Line}
use Rattle.scripts.specs.declared.line.Line.TheVariants as line
use Rattle.scripts.specs.declared.reading.Fault.{Fault}
use Rattle.scripts.specs.declared.reading.Parsed.{Parsed}
use Rattle.scripts.specs.declared.script.Call.{Call}
use Rattle.scripts.specs.declared.script.Dc.{Dc}
use Rattle.scripts.specs.declared.script.Procedure.{Procedure}
use Rattle.scripts.specs.declared.script.Script.{Script}
use Rattle.scripts.specs.declared.script.Step.{Step}
use Rattle.scripts.specs.declared.script.Step.TheVariants.{Admit}
use Rattle.scripts.specs.Lines.{line_said}
use Rattle.scripts.specs.Numbers.{and_then}
use Rattle.scripts.specs.Open.{Open, begun, slot_added, insn_added, finished}

pub record Contents : Type 0 where
  pub dcs : List Dc
  pub procedures : List Procedure
  pub steps : List Step
  pub first : List Call
  pub calls : List Call

abbrev pub contents_of : Script → Contents
contents_of s = record {
  dcs = s.dcs.items;
  procedures = s.procedures.items;
  steps = s.steps.items;
  first = s.first.items;
  calls = s.calls.items;
}

-- what was read so far: the names are those of the procedures and of the open one, so many of which were there to begin with
pub record State : Type 0 where
  pub contents : Contents
  pub names : List (List ℕ)
  pub given : ℕ
  pub current : Option Open

-- before all lines, with these procedures
abbrev pub only_procedures : List Procedure → Contents
only_procedures given = record { dcs = []; procedures = given; steps = []; first = []; calls = [] }

abbrev pub no_lines : List Procedure → List (List ℕ) → State
no_lines given names = record { contents = only_procedures given; names = names; given = length names; current = None }

-- ---- what a line adds

abbrev pub has_no_further : Contents → Bool
has_no_further c = (length c.steps == 0) && ((length c.first == 0) && (length c.calls == 0))

-- a line of the last part stands outside of procedures, behind a data component
abbrev pub may_go_on : State → Bool
may_go_on s = is_none s.current && nat_lt 0 (length s.contents.dcs)

-- at most 16 data components, before all else that the text has
abbrev pub dc_added : State → Dc → Result State ScriptFault
dc_added s dc =
    if is_none s.current && ((length s.names == s.given) && (has_no_further s.contents && nat_lt (length s.contents.dcs) 16))
    then Ok (record s { contents = record s.contents { dcs = s.contents.dcs ++ dc ∷ [] } }) else Err Order

abbrev pub is_taken : List (List ℕ) → List ℕ → Bool
is_taken names name = list_any (bytes_eq name) names

-- a procedure begins, behind the data components and before the last part
abbrev pub proc_added : State → List ℕ → ℕ → Result State ScriptFault
proc_added s name args =
    if is_taken s.names name then Err NameTaken else
    if may_go_on s && has_no_further s.contents then Ok (record s { names = s.names ++ name ∷ []; current = Some (begun name args) }) else
    Err Order

-- the open procedure changes
abbrev pub reopened : State → Option Open → (Open → Result Open ScriptFault) → Result State ScriptFault
reopened s None change = Err Order
reopened s (Some procedure) change = and_then (change procedure) (λ o. Ok (record s { current = Some o }))

abbrev pub slot_declared : State → Slot → Result State ScriptFault
slot_declared s slot = if nat_lt slot.dc (length s.contents.dcs) then reopened s s.current (λ o. slot_added o slot) else Err DcUnknown

abbrev pub insn_written : State → Insn → Result State ScriptFault
insn_written s insn = reopened s s.current (λ o. insn_added o insn)

abbrev pub closed : State → Option Open → ℕ → Result State ScriptFault
closed s None line = Err Order
closed s (Some procedure) line =
    and_then (finished procedure line) (λ p.
    Ok (record s { contents = record s.contents { procedures = s.contents.procedures ++ p ∷ [] }; current = None }))

abbrev pub procedure_ended : State → ℕ → Result State ScriptFault
procedure_ended s line = closed s s.current line

abbrev pub step_added : State → Step → Result State ScriptFault
step_added s step =
    if may_go_on s then Ok (record s { contents = record s.contents { steps = s.contents.steps ++ step ∷ [] } }) else Err Order

-- the first calls come before the others
abbrev pub first_added : State → Call → Result State ScriptFault
first_added s call =
    if may_go_on s && (length s.contents.calls == 0) then
    Ok (record s { contents = record s.contents { first = s.contents.first ++ call ∷ [] } }) else Err Order

abbrev pub call_added : State → Call → Result State ScriptFault
call_added s call =
    if may_go_on s then Ok (record s { contents = record s.contents { calls = s.contents.calls ++ call ∷ [] } }) else Err Order

abbrev pub numbered : Option ℕ → List ℕ → Result Call ScriptFault
numbered None args = Err NameUnknown
numbered (Some procedure) args = Ok (record { procedure = procedure; args = args })

-- the call of the procedure of this name
abbrev pub call_of : State → List ℕ → List ℕ → Result Call ScriptFault
call_of s name args = numbered (position (bytes_eq name) s.names) args

-- what the line of this number adds
abbrev pub next : State → ℕ → Line → Result State ScriptFault
next s number line.Nothing = Ok s
next s number (line.Dc dc) = dc_added s dc
next s number (line.Proc name args) = proc_added s name args
next s number (line.Slot slot) = slot_declared s slot
next s number (line.Insn insn) = insn_written s insn
next s number line.End = procedure_ended s number
next s number (line.Step step) = step_added s step
next s number (line.Admit name args) = and_then (call_of s name args) (λ call. step_added s (Admit call))
next s number (line.First name args) = and_then (call_of s name args) (first_added s)
next s number (line.Call name args) = and_then (call_of s name args) (call_added s)

abbrev pub taken : Command → State → ℕ → List ℕ → Result State ScriptFault
taken command s number text = and_then (line_said command (is_some s.current) text) (next s number)

-- ---- all lines

-- what a text says: all before its first fault, and the fault
pub record Reading : Type 0 where
  pub contents : Contents
  pub fault : Option Fault

abbrev pub parsed_of : Parsed → Reading
parsed_of p = record { contents = contents_of p.script; fault = p.fault }

abbrev pub fault_at : ℕ → Option ScriptFault → Option Fault
fault_at line None = None
fault_at line (Some fault) = Some (record { line = line; fault = fault })

abbrev pub stopped : Contents → ℕ → Option ScriptFault → Reading
stopped contents line fault = record { contents = contents; fault = fault_at line fault }

-- what only the end shows: an open procedure, or no data component
abbrev pub end_fault : State → Option ScriptFault
end_fault s = if is_some s.current then Some BadLine else if length s.contents.dcs == 0 then Some Order else None

abbrev pub go_on : Result State ScriptFault → Contents → ℕ → (State → Reading) → Reading
go_on (Ok s) contents line later = later s
go_on (Err fault) contents line later = stopped contents line (Some fault)

-- the lines behind so many
abbrev pub read_from : Command → ℕ → State → List (List ℕ) → Reading
read_from command number s [] = stopped s.contents number (end_fault s)
read_from command number s (text ∷ texts) =
    go_on (taken command s (number + 1) text) s.contents (number + 1) (λ t. read_from command (number + 1) t texts)

-- the names of procedures, no two of which are one, behind those that there are
abbrev pub names_given : List (List ℕ) → List Procedure → Result (List (List ℕ)) ScriptFault
names_given names [] = Ok names
names_given names (p ∷ ps) = if is_taken names p.name then Err NameTaken else names_given (names ++ p.name ∷ []) ps

abbrev pub said_by : Result (List (List ℕ)) ScriptFault → Command → List Procedure → List ℕ → Reading
said_by (Ok names) command given text = read_from command 0 (no_lines given names) (lines text)
said_by (Err fault) command given text = stopped (only_procedures []) 0 (Some fault)

-- what a text says where these procedures are there to begin with, as if they stood behind its data components
abbrev pub said_behind : Command → List Procedure → List ℕ → Reading
said_behind command given text = said_by (names_given [] given) command given text

abbrev pub script_said : Command → List ℕ → Reading
script_said command text = said_behind command [] text
