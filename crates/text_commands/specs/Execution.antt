-- What a run of code from its text comes to, and the lines that say it.
use Rattle.std.specs.Prelude.{ℕ, nat_lt, Bool, true, false, List, [], ◌++◌, length, Option, Some, None, Ok, Err, codes, decimal}
use Rattle.access_slots.specs.Declaration.{Declaration}
use Rattle.bpf_encoding.specs.Named.{code_named}
use Rattle.bpf_encoding.specs.Spells.{fault_in}
use Rattle.bpf_encoding.specs.declared.decode.DecodeFault.{DecodeFault}
use Rattle.semantics.specs.Row.{outcome_of}
use Rattle.register_kinds.specs.declared.kind.Violation.{Violation}
use Rattle.verifier.specs.Verdict.{verdict}
use Rattle.report_texts.specs.FaultNames.{fault_name, violation_name}
use Rattle.report_texts.specs.Hex.{Hex, hex_of}
use Rattle.text_commands.specs.declared.execute.Execution.{Execution}
use Rattle.text_commands.specs.declared.execute.Execution.TheVariants.{Answer, NotHex, Code, TooManyArgs, Refused}

-- what a run that ends comes to
abbrev pub answered : Option (ℕ × ℕ) → Option Execution
answered None = None
answered (Some (value, executed)) = Some (Answer value executed)

-- the bytes are code: what the verifier says of it decides
abbrev pub execution_by_verdict : Option (ℕ × Violation) → List ℕ → List ℕ → Option Execution
execution_by_verdict (Some (slot, violation)) bytes args = Some (Refused slot violation)
execution_by_verdict None bytes args = answered (outcome_of bytes args)

-- so many arguments and no slots
abbrev pub without_slots : ℕ → Declaration
without_slots args = record { args = args; slots = [] }

-- with at most eight arguments
abbrev pub execution_by_count : Bool → List ℕ → List ℕ → Option Execution
execution_by_count true bytes args = Some TooManyArgs
execution_by_count false bytes args = execution_by_verdict (verdict (without_slots (length args)) (code_named bytes)) bytes args

abbrev pub execution_by_fault : Option DecodeFault → List ℕ → List ℕ → Option Execution
execution_by_fault (Some fault) bytes args = Some (Code fault)
execution_by_fault None bytes args = execution_by_count (nat_lt 8 (length args)) bytes args

-- what the bytes of code come to with these arguments
abbrev pub execution_of : List ℕ → List ℕ → Option Execution
execution_of bytes args = execution_by_fault (fault_in bytes) bytes args

abbrev pub hex_execution : Hex → List ℕ → Option Execution
hex_execution (Err at) args = Some (NotHex at)
hex_execution (Ok bytes) args = execution_of bytes args

-- what was read is the bytes themselves, or hex text that says them
abbrev pub text_execution : Bool → List ℕ → List ℕ → Option Execution
text_execution true text args = execution_of text args
text_execution false text args = hex_execution (hex_of text) args

-- ---- lines

abbrev pub answer_lines : ℕ → ℕ → List ℕ
answer_lines value executed = ((codes "answer " ++ decimal value) ++ codes "\n") ++ ((codes "executed " ++ decimal executed) ++ codes "\n")

abbrev pub lines_of : Execution → List ℕ
lines_of (Answer value executed) = answer_lines value executed
lines_of (NotHex at) = (codes "refused H1 NotHex at " ++ decimal at) ++ codes "\n"
lines_of (Code fault) = (codes "refused " ++ fault_name fault) ++ codes "\n"
lines_of TooManyArgs = codes "refused S1 TooManyArgs\n"
lines_of (Refused slot violation) = (((codes "refused " ++ violation_name violation) ++ codes " slot ") ++ decimal slot) ++ codes "\n"

-- 0 where there is an answer, 1 where it is refused
abbrev pub status_of : Execution → ℕ
status_of (Answer value executed) = 0
status_of (NotHex at) = 1
status_of (Code fault) = 1
status_of TooManyArgs = 1
status_of (Refused slot violation) = 1
