-- What `verify` prints of a script, and its exit status.
use Rattle.std.specs.Prelude.{ℕ, Bool, if◌then◌else◌, List, [], ◌++◌, length, is_some, Option, Some, None, codes, decimal}
use Rattle.std.specs.List.{flat_map, list_any}
use Rattle.bpf_encoding.specs.declared.insn.Place.{Place}
use Rattle.register_kinds.specs.declared.kind.Violation.{Violation}
use Rattle.scripts.specs.Reading.{Reading, script_said}
use Rattle.scripts.specs.declared.keyword.Command.TheVariants as command
use Rattle.scripts.specs.declared.reading.Fault.{Fault}
use Rattle.scripts.specs.declared.script.Procedure.{Procedure}
use Rattle.verifier.specs.Verdict.{verdict}
use Rattle.report_texts.specs.FaultNames.{violation_name}
use Rattle.report_texts.specs.ScriptRefusal.{script_refusal}

-- a procedure's line: how many slots its code has, or what the verifier finds first, with what is said of that slot
abbrev pub verdict_line : Option (ℕ × Violation) → (ℕ → List ℕ) → List ℕ → List Place → List ℕ
verdict_line None said name code = ((name ++ codes " accepted ") ++ decimal (length code)) ++ codes "\n"
verdict_line (Some (slot, violation)) said name code =
    (((((name ++ codes " ") ++ violation_name violation) ++ codes " slot ") ++ decimal slot) ++ said slot) ++ codes "\n"

abbrev pub procedure_line : Procedure → List ℕ
procedure_line p = verdict_line (verdict p.decl p.code) (λ _. []) p.name p.code

abbrev pub is_refused : Procedure → Bool
is_refused p = is_some (verdict p.decl p.code)

abbrev pub lines_by_fault : Option Fault → List Procedure → List ℕ
lines_by_fault (Some fault) procedures = script_refusal fault
lines_by_fault None procedures = flat_map procedure_line procedures

abbrev pub status_by_fault : Option Fault → List Procedure → ℕ
status_by_fault (Some fault) procedures = 1
status_by_fault None procedures = if list_any is_refused procedures then 1 else 0

abbrev pub lines_of_reading : Reading → List ℕ
lines_of_reading r = lines_by_fault r.fault r.contents.procedures

abbrev pub status_of_reading : Reading → ℕ
status_of_reading r = status_by_fault r.fault r.contents.procedures

-- a line for each procedure, or the script's first fault alone
abbrev pub verification_lines : List ℕ → List ℕ
verification_lines text = lines_of_reading (script_said command.Verify text)

-- 1 where the script or a procedure is refused, else 0
abbrev pub verification_status : List ℕ → ℕ
verification_status text = status_of_reading (script_said command.Verify text)
