-- What lines of assembly text say.
use Rattle.std.specs.Prelude.{ℕ, ◌+◌, ◌^◌, nat_lt, ◌==◌, if◌then◌else◌, List, [], ◌∷◌, length, Option, Some, None, Result, Ok, Err}
use Rattle.std.specs.Str.Lines.{lines}
use Rattle.bpf_encoding.specs.Spelling.{places_of}
use Rattle.bpf_encoding.specs.declared.insn.Insn.{Insn}
use Rattle.bpf_encoding.specs.declared.insn.Insn.TheVariants as insn
use Rattle.bpf_encoding.specs.declared.insn.Place.{Place}
use Rattle.bpf_asm.specs.declared.line.LineFault.{LineFault}
use Rattle.bpf_asm.specs.declared.line.LineFault.TheVariants as fault
use Rattle.bpf_asm.specs.declared.assemble.AsmFault.{AsmFault}
use Rattle.bpf_asm.specs.declared.assemble.AsmFault.TheVariants.{Line, TooLong, NoCode}
use Rattle.bpf_asm.specs.declared.mnemonic.Mnemonic.{Mnemonic}
use Rattle.bpf_asm.specs.declared.mnemonic.Mnemonic.TheVariants.{Alu, Negate, MoveSigned, Order, LoadWide, Jump}
use Rattle.bpf_asm.specs.declared.mnemonic.Mnemonic.TheVariants.{JumpLong, JumpIf, Load, LoadSigned, StoreImm, Store}
use Rattle.bpf_asm.specs.declared.mnemonic.Mnemonic.TheVariants.{Atomic, Call, Exit}
use Rattle.bpf_asm.specs.Cutting.{said_in, word_of, rest_of, operand_texts, text_at, is_empty}
use Rattle.bpf_asm.specs.Mnemonics.{mnemonic_said, operand_count}
use Rattle.bpf_asm.specs.Numbers.{and_then, number_said, wide_said, jump_said}
use Rattle.bpf_asm.specs.Operand.{register_said, source_said, memory_said}

-- the instruction of a word with these operands
abbrev pub insn_with : Mnemonic → List ℕ → List ℕ → List ℕ → Result Insn LineFault
insn_with (Alu width operation) a b c =
    and_then (register_said a) (λ dst. and_then (source_said b) (λ source. Ok (insn.Alu width operation dst source)))
insn_with (Negate width) a b c = and_then (register_said a) (λ dst. Ok (insn.Negate width dst))
insn_with (MoveSigned extension) a b c =
    and_then (register_said a) (λ dst. and_then (register_said b) (λ src. Ok (insn.MoveSigned extension dst src)))
insn_with (Order order width) a b c = and_then (register_said a) (λ dst. Ok (insn.Order order width dst))
insn_with LoadWide a b c = and_then (register_said a) (λ dst. and_then (wide_said b) (λ value. Ok (insn.LoadWide dst value)))
insn_with Jump a b c = and_then (jump_said (2 ^ 15) a) (λ offset. Ok (insn.Jump offset))
insn_with JumpLong a b c = and_then (jump_said (2 ^ 31) a) (λ offset. Ok (insn.JumpLong offset))
insn_with (JumpIf width condition) a b c =
    and_then (register_said a) (λ dst. and_then (source_said b) (λ source.
    and_then (jump_said (2 ^ 15) c) (λ offset. Ok (insn.JumpIf width condition dst source offset))))
insn_with (Load size) a b c = and_then (register_said a) (λ dst. and_then (memory_said b) (λ m. Ok (insn.Load size dst m.0 m.1)))
insn_with (LoadSigned size) a b c = and_then (register_said a) (λ dst.
    and_then (memory_said b) (λ m. Ok (insn.LoadSigned size dst m.0 m.1)))
insn_with (StoreImm size) a b c = and_then (memory_said a) (λ m. and_then (number_said b) (λ imm. Ok (insn.StoreImm size m.0 m.1 imm)))
insn_with (Store size) a b c = and_then (memory_said a) (λ m. and_then (register_said b) (λ src. Ok (insn.Store size m.0 src m.1)))
insn_with (Atomic width operation) a b c =
    and_then (memory_said a) (λ m. and_then (register_said b) (λ src. Ok (insn.Atomic width operation m.0 src m.1)))
insn_with Call a b c = and_then (number_said a) (λ helper. Ok (insn.Call helper))
insn_with Exit a b c = Ok insn.Exit

-- with these operands, where they are as many as the word takes
abbrev pub insn_of_texts : Mnemonic → List (List ℕ) → Result Insn LineFault
insn_of_texts mnemonic texts =
    if length texts == operand_count mnemonic then
    insn_with mnemonic (text_at 0 texts) (text_at 1 texts) (text_at 2 texts) else Err fault.Operands

-- of a word with what follows it
abbrev pub insn_of_word : List ℕ → List ℕ → Result Insn LineFault
insn_of_word word rest = and_then (mnemonic_said word) (λ mnemonic. insn_of_texts mnemonic (operand_texts rest))

-- of a text that isn't empty
abbrev pub insn_said : List ℕ → Result Insn LineFault
insn_said text = insn_of_word (word_of text) (rest_of text)

-- of a line: none where it is empty but for blanks and a comment
abbrev pub line_said : List ℕ → Result (Option Insn) LineFault
line_said line = if is_empty (said_in line) then Ok None else and_then (insn_said (said_in line)) (λ i. Ok (Some i))

-- ---- all lines

abbrev pub or_fault : Result (List Insn) AsmFault → (List Insn → Result (List Place) AsmFault) → Result (List Place) AsmFault
or_fault (Ok insns) f = f insns
or_fault (Err e) f = Err e

abbrev pub first_then : Insn → Result (List Insn) AsmFault → Result (List Insn) AsmFault
first_then i (Ok insns) = Ok (i ∷ insns)
first_then i (Err e) = Err e

-- one line, and then the others: number is the line's, from 1, and slots those of the lines before
abbrev pub by_line : ℕ → ℕ → Result (Option Insn) LineFault → (ℕ → Result (List Insn) AsmFault) → Result (List Insn) AsmFault
by_line number slots (Err e) later = Err (Line number e)
by_line number slots (Ok None) later = later slots
by_line number slots (Ok (Some i)) later =
    if nat_lt 4096 (slots + length (places_of (i ∷ []))) then Err (TooLong number) else
    first_then i (later (slots + length (places_of (i ∷ []))))

abbrev pub insns_from : ℕ → ℕ → List (List ℕ) → Result (List Insn) AsmFault
insns_from number slots [] = Ok []
insns_from number slots (line ∷ others) = by_line number slots (line_said line) (λ s. insns_from (number + 1) s others)

abbrev pub code_of : List Insn → Result (List Place) AsmFault
code_of [] = Err NoCode
code_of (i ∷ insns) = Ok (places_of (i ∷ insns))

-- what a text says: its code, or its first fault
abbrev pub assembled : List ℕ → Result (List Place) AsmFault
assembled text = or_fault (insns_from 1 0 (lines text)) code_of
