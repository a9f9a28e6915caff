-- What a script's steps or calls begin with, or why the script is refused before them.
use Rattle.std.specs.Prelude.{◌≡◌, ℕ, nat_le, Bool, List, [], ◌∷◌, ◌++◌, length, map, replicate, Option, Some, None, Result, Ok, Err}
use Rattle.std.specs.Prelude.{option_map, codes, decimal, string_bytes}
use Rattle.std.specs.List.{find, list_any}
use Rattle.access_slots.specs.declared.slot.Slot.{Slot}
use Rattle.register_kinds.specs.declared.kind.Violation.{Violation}
use Rattle.verifier.specs.Checked.{Checked}
use Rattle.verifier.specs.Verdict.{verdict}
use Rattle.data_component.specs.Store.{Store, empty}
use Rattle.object_procedures.specs.Given.{given_in}
use Rattle.object_procedures.specs.NamedPlaces.{named_place}
use Rattle.scripts.specs.Reading.{Contents, Reading, only_procedures, said_behind, script_said}
use Rattle.scripts.specs.declared.keyword.Command.{Command}
use Rattle.scripts.specs.declared.reading.Fault.{Fault}
use Rattle.scripts.specs.declared.script.Dc.{Dc}
use Rattle.scripts.specs.declared.script.Procedure.{Procedure}
use Rattle.tc_core.specs.Core.{Core}
use Rattle.transactions.specs.InFlight.{untold}
use Rattle.report_texts.specs.FaultNames.{violation_name}
use Rattle.report_texts.specs.ScriptRefusal.{script_refusal}
use Rattle.script_loading.specs.declared.loading.Source.{Source}
use Rattle.script_loading.specs.declared.loading.Unloaded.{Unloaded}
use Rattle.script_loading.specs.declared.loading.Unloaded.TheVariants as unloaded
use Rattle.script_loading.specs.declared.loading.Accepted.{Accepted as AcceptedScript}
use Rattle.script_loading.specs.declared.loading.Acceptance.{Acceptance}
use Rattle.script_loading.specs.declared.loading.Acceptance.TheVariants as acceptance
use Rattle.script_loading.specs.declared.loading.Loaded.{Loaded}
use Rattle.script_loading.specs.declared.loading.Loading.{Loading}
use Rattle.script_loading.specs.declared.loading.Loading.TheVariants.{Ready, Refused}

-- ---- procedures that are refused

-- where a procedure stands: at the line of its `end`, or in an object file, which has it under its name
abbrev pub place_name : Option ℕ → List ℕ → List ℕ
place_name (Some line) name = codes "line " ++ decimal line
place_name None name = codes "object " ++ name

-- the line of the source that a slot of a procedure comes from: of one of the object file, where that says it
abbrev pub place_behind : Option (List ℕ) → Option ℕ → List ℕ → ℕ → List ℕ
place_behind (Some object) None name slot = named_place object name slot
place_behind object line name slot = []

abbrev pub unverified_line : Option (List ℕ) → (line : Option ℕ) → (name : List ℕ) → ℕ → Violation → List ℕ
unverified_line object line name slot violation =
    codes "refused " ++ (place_name line name ++ (codes " F7 Verify " ++ (violation_name violation
    ++ (codes " slot " ++ (decimal slot ++ (place_behind object line name slot ++ codes "\n"))))))

abbrev pub unverified_by : Option (List ℕ) → Procedure → Option (ℕ × Violation) → Option (List ℕ)
unverified_by object p None = None
unverified_by object p (Some (slot, violation)) = Some (unverified_line object p.line p.name slot violation)

-- the line of what the verifier finds first in a procedure of a script, or of the object file beside it
abbrev pub unverified : Option (List ℕ) → Procedure → Option (List ℕ)
unverified object p = unverified_by object p (verdict p.decl p.code)

abbrev pub or_later : Option (List ℕ) → Option (List ℕ) → Option (List ℕ)
or_later (Some line) later = Some line
or_later None later = later

-- of the first procedure that is refused
abbrev pub first_unverified : Option (List ℕ) → List Procedure → Option (List ℕ)
first_unverified object [] = None
first_unverified object (p ∷ ps) = or_later (unverified object p) (first_unverified object ps)

-- it is the one that is refused; want of memory may come at any
abbrev pub IsUnloaded : Option (List ℕ) → Unloaded → Type 0
IsUnloaded found (unloaded.Refused report) = (found ≡ Some (string_bytes report.lines)) × (report.status ≡ 1)
IsUnloaded found unloaded.Memory = Unit {0}

-- ---- why a script is refused

abbrev pub refusal_by : Option (List ℕ) → Option Fault → Option (List ℕ)
refusal_by (Some line) fault = Some line
refusal_by None (Some fault) = Some (script_refusal fault)
refusal_by None None = None

-- the first procedure that is refused goes before the text's fault, which stands behind it
abbrev pub refusal_beside : Option (List ℕ) → Reading → Option (List ℕ)
refusal_beside object r = refusal_by (first_unverified object r.contents.procedures) r.fault

-- of a script alone
abbrev pub refusal_of : Reading → Option (List ℕ)
refusal_of r = refusal_beside None r

-- ---- an object file with a script

-- a slot of the procedure is of a data component that there isn't, where there are so many
abbrev pub reaches_past : ℕ → Procedure → Bool
reaches_past dcs p = list_any (λ (s : Slot). nat_le dcs s.dc) p.decl.slots

abbrev pub unknown_dc_line : List ℕ → List ℕ
unknown_dc_line name = (codes "refused object " ++ name) ++ codes " F8 DcUnknown\n"

abbrev pub fault_or_line : Option Fault → List ℕ → List ℕ
fault_or_line (Some fault) line = script_refusal fault
fault_or_line None line = line

abbrev pub refusal_after : List ℕ → Option Procedure → Reading → Option (List ℕ)
refusal_after object None r = refusal_beside (Some object) r
refusal_after object (Some p) r = Some (fault_or_line r.fault (unknown_dc_line p.name))

-- the first procedure with such a slot, unless the script has a fault of its own; else as without an object file
abbrev pub refusal_behind : List ℕ → Reading → Option (List ℕ)
refusal_behind object r = refusal_after object (find (reaches_past (length r.contents.dcs)) r.contents.procedures) r

-- what a command begins with, or why it isn't begun
pub record Beginning : Type 0 where
  pub refusal : Option (List ℕ)
  pub contents : Contents

abbrev pub of_script : Reading → Beginning
of_script r = record { refusal = refusal_of r; contents = r.contents }

abbrev pub of_both : List ℕ → Reading → Beginning
of_both object r = record { refusal = refusal_behind object r; contents = r.contents }

abbrev pub beginning_by : Command → List ℕ → Result (List Procedure) (List ℕ) → List ℕ → Beginning
beginning_by command object (Ok given) text = of_both object (said_behind command given text)
beginning_by command object (Err line) text = record { refusal = Some line; contents = only_procedures [] }

-- of a script alone, or of one with an object file, whose procedures are there as if they stood behind its data components
abbrev pub beginning : Command → Option (List ℕ) → List ℕ → Beginning
beginning command None text = of_script (script_said command text)
beginning command (Some file) text = beginning_by command file (given_in file) text

abbrev pub beginning_of : Command → Source → Beginning
beginning_of command source = beginning command (option_map (λ file. file.now) source.object) source.text.now

-- ---- what the first step or call finds

abbrev pub checked_of : Procedure → Checked
checked_of p = record { code = p.code; decl = p.decl }

abbrev pub name_of : Procedure → List ℕ
name_of p = p.name

-- these procedures are loaded behind those that are there
abbrev pub with_procedures : Core → List Procedure → Core
with_procedures c ps = record c { procs = c.procs ++ map checked_of ps; names = c.names ++ map name_of ps }

-- nothing is loaded, nothing has happened, and nothing was told of data components
abbrev pub empty_core : ℕ → Core
empty_core dcs = record { procs = []; names = []; dcs = dcs; events = []; given_up = []; sites = replicate dcs untold }

abbrev pub empty_store : Dc → Store
empty_store dc = empty dc.rows dc.ops

-- what a script's calls begin with: its procedures are loaded, and nothing has happened
abbrev pub begun : Contents → Core
begun c = with_procedures (empty_core (length c.dcs)) c.procedures

-- and its data components, with the limits that it says, and empty
abbrev pub empty_stores : Contents → List Store
empty_stores c = map empty_store c.dcs

-- all procedures are verified, and loaded in their order
pub record IsAccepted (object : Option (List ℕ)) (contents : Contents) (a : AcceptedScript) : Type 0 where
  pub verified : first_unverified object contents.procedures ≡ None
  pub state : a.state ≡ with_procedures (empty_core (length contents.dcs)) contents.procedures
  pub dcs : a.script.dcs.items ≡ contents.dcs
  pub procedures : a.script.procedures.items ≡ contents.procedures
  pub steps : a.script.steps.items ≡ contents.steps
  pub first : a.script.first.items ≡ contents.first
  pub calls : a.script.calls.items ≡ contents.calls

abbrev pub IsAcceptanceBy : Option (List ℕ) → Option (List ℕ) → Contents → Acceptance → Type 0
IsAcceptanceBy object refusal contents (acceptance.Accepted a) = (refusal ≡ None) × IsAccepted object contents a
IsAcceptanceBy object refusal contents (acceptance.Refused report) = (refusal ≡ Some (string_bytes report.lines)) × (report.status ≡ 1)

abbrev pub IsAcceptanceBeside : Option (List ℕ) → Reading → Acceptance → Type 0
IsAcceptanceBeside object r a = IsAcceptanceBy object (refusal_beside object r) r.contents a

-- of a script that may come with this object file
abbrev pub IsAcceptanceOf : Option (List ℕ) → Beginning → Acceptance → Type 0
IsAcceptanceOf object b a = IsAcceptanceBy object b.refusal b.contents a

-- all procedures are loaded in their order, and the data components are empty
pub record IsReady (contents : Contents) (loaded : Loaded) : Type 0 where
  pub state : loaded.state ≡ with_procedures (empty_core (length contents.dcs)) contents.procedures
  pub dcs : loaded.dcs.items ≡ map empty_store contents.dcs
  pub steps : loaded.steps.items ≡ contents.steps
  pub first : loaded.first.items ≡ contents.first
  pub calls : loaded.calls.items ≡ contents.calls

abbrev pub IsLoadingBy : Option (List ℕ) → Contents → Loading → Type 0
IsLoadingBy refusal contents (Ready loaded) = (refusal ≡ None) × IsReady contents loaded
IsLoadingBy refusal contents (Refused report) = (refusal ≡ Some (string_bytes report.lines)) × (report.status ≡ 1)

abbrev pub IsLoading : Reading → Loading → Type 0
IsLoading r loading = IsLoadingBy (refusal_of r) r.contents loading

-- the same of a script that may come with an object file
abbrev pub IsLoadingOf : Beginning → Loading → Type 0
IsLoadingOf b loading = IsLoadingBy b.refusal b.contents loading
