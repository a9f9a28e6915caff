-- The procedures of an object file as those of a script, or the line that says why there are none.
use Rattle.std.specs.Prelude.{◌≡◌, ℕ, List, ◌++◌, Option, None, Result, Ok, Err, codes, string_bytes}
use Rattle.bpf_encoding.specs.declared.decode.DecodeFault.{DecodeFault}
use Rattle.bpf_encoding.specs.declared.insn.Place.{Place}
use Rattle.object_file.specs.LineSections.{LineBytes, line_sections_said}
use Rattle.report_texts.specs.FaultNames.{fault_name}
use Rattle.scripts.specs.declared.script.Procedure.{Procedure}
use Rattle.object_procedures.specs.Each.{each}
use Rattle.object_procedures.specs.Finding.{found_in}
use Rattle.object_procedures.specs.Refusal.{object_refusal}
use Rattle.object_procedures.specs.SourcePlaces.{fault_text}
use Rattle.object_procedures.specs.declared.finding.Found.{Found}
use Rattle.object_procedures.specs.declared.finding.ObjectRefusal.{ObjectRefusal}
use Rattle.object_procedures.specs.declared.given.Ungiven.{Ungiven}
use Rattle.object_procedures.specs.declared.given.Ungiven.TheVariants.{Refused, Memory}

-- its name and the fault, and at the end the line of the slot that is at fault, where the file says it
abbrev pub code_refusal : List ℕ → DecodeFault → (place : List ℕ) → List ℕ
code_refusal name fault place = codes "refused object " ++ (name ++ (codes " " ++ (fault_name fault ++ (place ++ codes "\n"))))

abbrev pub given_by : Option LineBytes → Result (List Place) DecodeFault → Found → Result Procedure (List ℕ)
given_by lines (Ok code) f = Ok (record { name = f.name; decl = f.decl; code = code; line = None })
given_by lines (Err fault) f = Err (code_refusal f.name fault (fault_text lines f.section fault))

-- its bytes are code
abbrev pub given_of : Option LineBytes → Found → Result Procedure (List ℕ)
given_of lines f = given_by lines f.code f

-- all of them, or the line of the first whose bytes aren't code
abbrev pub all_given : Option LineBytes → List Found → Result (List Procedure) (List ℕ)
all_given lines found = each (given_of lines) found

abbrev pub given_after : List ℕ → Result (List Found) ObjectRefusal → Result (List Procedure) (List ℕ)
given_after file (Ok found) = all_given (line_sections_said file) found
given_after file (Err why) = Err (object_refusal file why)

-- what the file has, in the order of its sections
abbrev pub given_in : List ℕ → Result (List Procedure) (List ℕ)
given_in file = given_after file (found_in file)

-- the report has this line, want of memory aside
abbrev pub IsStop : {A : Type 0} → Result A (List ℕ) → Ungiven → Type 0
IsStop said (Refused report) = (said ≡ Err (string_bytes report.lines)) × (report.status ≡ 1)
IsStop said Memory = Unit {0}

-- what is given is what is said, or the report of why not
abbrev pub Gives : {A : Type 0} → Result A (List ℕ) → Result A Ungiven → Type 0
Gives said (Ok a) = said ≡ Ok a
Gives said (Err e) = IsStop said e
