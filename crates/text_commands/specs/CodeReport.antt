-- What is printed for a code or a text alone, and the exit status.
use Rattle.std.specs.Prelude.{◌≡◌, ℕ, Bool, true, false, List, ◌++◌, Option, Some, None, Result, Ok, Err, codes}
use Rattle.bpf_encoding.specs.Named.{code_named}
use Rattle.bpf_encoding.specs.Spells.{Spells, fault_in}
use Rattle.bpf_encoding.specs.declared.insn.Place.{Place}
use Rattle.bpf_encoding.specs.declared.decode.DecodeFault.{DecodeFault}
use Rattle.bpf_asm.specs.Parts.{text_of}
use Rattle.bpf_asm.specs.declared.assemble.AsmFault.{AsmFault}
use Rattle.report_texts.specs.Hex.{Hex, hex_of, hex_lines}
use Rattle.text_commands.specs.Execution.{lines_of, status_of}
use Rattle.text_commands.specs.declared.execute.Execution.{Execution}
use Rattle.text_commands.specs.declared.execute.Execution.TheVariants.{NotHex, Code}
use Rattle.report_texts.specs.FaultNames.{asm_fault_name}

-- ---- executing

abbrev pub IsExecution : Option Execution → ℕ → List ℕ → Type 0
IsExecution execution status lines = (e : Execution) × (execution ≡ Some e) × (status ≡ status_of e) × (lines ≡ lines_of e)

-- ---- assembling

abbrev pub asm_refusal : AsmFault → List ℕ
asm_refusal e = (codes "refused " ++ asm_fault_name e) ++ codes "\n"

-- bytes that spell the text's code, or its first fault
abbrev pub IsAssembly : Result (List Place) AsmFault → ℕ → List ℕ → Type 0
IsAssembly (Ok code) status lines = (status ≡ 0) × ((bytes : List ℕ) × Spells bytes code × (lines ≡ hex_lines bytes))
IsAssembly (Err e) status lines = (status ≡ 1) × (lines ≡ asm_refusal e)

-- ---- disassembling

abbrev pub IsDisassemblyOf : Option DecodeFault → List ℕ → ℕ → List ℕ → Type 0
IsDisassemblyOf (Some fault) bytes status lines = (status ≡ 1) × (lines ≡ lines_of (Code fault))
IsDisassemblyOf None bytes status lines = (status ≡ 0) × (lines ≡ text_of (code_named bytes))

abbrev pub IsHexDisassembly : Hex → ℕ → List ℕ → Type 0
IsHexDisassembly (Err at) status lines = (status ≡ 1) × (lines ≡ lines_of (NotHex at))
IsHexDisassembly (Ok bytes) status lines = IsDisassemblyOf (fault_in bytes) bytes status lines

abbrev pub IsDisassembly : Bool → List ℕ → ℕ → List ℕ → Type 0
IsDisassembly true text status lines = IsDisassemblyOf (fault_in text) text status lines
IsDisassembly false text status lines = IsHexDisassembly (hex_of text) status lines
