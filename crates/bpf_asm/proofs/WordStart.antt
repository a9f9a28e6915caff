-- What the rows of words begin with: the slots that a text says.
use Rattle.std.proofs.Common.{ℕ, List, Option, Some, None}
use Rattle.std.specs.Prelude.{Result, Ok, Err}
use Rattle.std.specs.List.{flat_map}
use Rattle.std.specs.Int.{w64, to_le_bytes}
use Rattle.bpf_encoding.specs.Fields.{Fields, slots_of}
use Rattle.bpf_encoding.specs.Spelling.{fields_of_code}
use Rattle.bpf_encoding.specs.declared.insn.Place.{Place}
use Rattle.bpf_asm.specs.declared.assemble.AsmFault.{AsmFault}
use Rattle.bpf_asm.specs.Lines.{assembled}

abbrev pub slots_in : Result (List Place) AsmFault → Option (List Fields)
slots_in (Ok places) = Some (fields_of_code places)
slots_in (Err fault) = None

abbrev pub said : List ℕ → Option (List Fields)
said text = slots_in (assembled text)

abbrev pub spelled : List ℕ → Option (List Fields)
spelled slots = Some (slots_of (flat_map (to_le_bytes w64) slots))
