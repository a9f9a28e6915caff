-- What `verify` prints of an object file, and its exit status.
use Rattle.std.specs.Prelude.{◌≡◌, ℕ, Bool, true, false, ◌||◌, if◌then◌else◌, List, [], ◌∷◌, ◌++◌, is_some}
use Rattle.std.specs.Prelude.{Option, Result, Ok, Err, codes}
use Rattle.std.specs.List.{flat_map, list_any}
use Rattle.bpf_encoding.specs.declared.decode.DecodeFault.{DecodeFault}
use Rattle.bpf_encoding.specs.declared.insn.Place.{Place}
use Rattle.object_file.specs.LineSections.{LineBytes, line_sections_said}
use Rattle.object_procedures.specs.Finding.{AllFound, findings_in}
use Rattle.object_procedures.specs.Refusal.{object_refusal}
use Rattle.object_procedures.specs.SourcePlaces.{slot_text, fault_text}
use Rattle.object_procedures.specs.declared.finding.Found.{Found}
use Rattle.object_procedures.specs.declared.finding.ObjectRefusal.{ObjectRefusal}
use Rattle.report_texts.specs.FaultNames.{fault_name}
use Rattle.verifier.specs.Verdict.{verdict}
use Rattle.text_commands.specs.Verification.{verdict_line, verification_lines, verification_status}

-- what is said of bytes that aren't code: their first fault, with what is said of its slot
abbrev pub fault_line : List ℕ → DecodeFault → List ℕ → List ℕ
fault_line name fault place = (((name ++ codes " ") ++ fault_name fault) ++ place) ++ codes "\n"

abbrev pub line_by_code : Option LineBytes → Result (List Place) DecodeFault → Found → List ℕ
line_by_code lines (Ok code) f = verdict_line (verdict f.decl code) (slot_text lines f.section) f.name code
line_by_code lines (Err fault) f = fault_line f.name fault (fault_text lines f.section fault)

-- its line: as of a procedure of a script, or the first fault of its code; a slot's line of the source, where the file says it, stands at
-- its end
abbrev pub found_line : Option LineBytes → Found → List ℕ
found_line lines f = line_by_code lines f.code f

abbrev pub refused_by_code : Result (List Place) DecodeFault → Found → Bool
refused_by_code (Ok code) f = is_some (verdict f.decl code)
refused_by_code (Err fault) f = true

abbrev pub is_found_refused : Found → Bool
is_found_refused f = refused_by_code f.code f

abbrev pub findings_lines : List ℕ → AllFound → List ℕ
findings_lines file all = flat_map (object_refusal file) all.refusals ++ flat_map (found_line (line_sections_said file)) all.found

-- a line for each refusal of the file, then one for each procedure that isn't refused so; or why the file isn't read
abbrev pub lines_of_found : List ℕ → Result AllFound ObjectRefusal → List ℕ
lines_of_found file (Ok all) = findings_lines file all
lines_of_found file (Err why) = object_refusal file why

abbrev pub has_some : {A : Type 0} → List A → Bool
has_some [] = false
has_some (x ∷ xs) = true

-- 1 where the file or a procedure is refused, else 0
abbrev pub status_of_found : Result AllFound ObjectRefusal → ℕ
status_of_found (Ok all) = if has_some all.refusals || list_any is_found_refused all.found then 1 else 0
status_of_found (Err why) = 1

-- of an object file, or of a script
abbrev pub IsVerification : (is_object : Bool) → List ℕ → ℕ → List ℕ → Type 0
IsVerification true file status lines =
    (status ≡ status_of_found (findings_in file)) × (lines ≡ lines_of_found file (findings_in file))
IsVerification false text status lines = (status ≡ verification_status text) × (lines ≡ verification_lines text)
