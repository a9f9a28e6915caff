-- Operands: registers, sources and memory.
use Rattle.std.specs.Prelude.{ℕ, ◌-◌, ◌^◌, ℤ, Bool, ◌&&◌, ◌||◌, ◌==◌, nat_le, if◌then◌else◌, List, [], ◌∷◌, take}
use Rattle.std.specs.Prelude.{drop, length, Result, Ok, Err, codes}
use Rattle.std.specs.List.{position_or_len}
use Rattle.bpf_encoding.specs.declared.insn.Register.{Register}
use Rattle.bpf_encoding.specs.declared.insn.Register.TheVariants.{R0, R1, R2, R3, R4, R5, R6, R7, R8, R9, R10}
use Rattle.bpf_encoding.specs.declared.insn.Source.{Source}
use Rattle.bpf_encoding.specs.declared.insn.Source.TheVariants.{Imm, Reg}
use Rattle.bpf_asm.specs.declared.line.LineFault.{LineFault}
use Rattle.bpf_asm.specs.declared.line.LineFault.TheVariants.{BadRegister, Operands}
use Rattle.bpf_asm.specs.Mnemonics.{named}
use Rattle.bpf_asm.specs.Numbers.{and_then, has, number_said, jump_said}

abbrev pub registers : List Register
registers = R0 ∷ R1 ∷ R2 ∷ R3 ∷ R4 ∷ R5 ∷ R6 ∷ R7 ∷ R8 ∷ R9 ∷ R10 ∷ []

abbrev pub register_name : Register → List ℕ
register_name R0 = codes "r0"
register_name R1 = codes "r1"
register_name R2 = codes "r2"
register_name R3 = codes "r3"
register_name R4 = codes "r4"
register_name R5 = codes "r5"
register_name R6 = codes "r6"
register_name R7 = codes "r7"
register_name R8 = codes "r8"
register_name R9 = codes "r9"
register_name R10 = codes "r10"

abbrev pub register_said : List ℕ → Result Register LineFault
register_said text = named register_name BadRegister registers text

abbrev pub in_register : Register → Result Source LineFault
in_register r = Ok (Reg r)

abbrev pub in_slot : ℤ → Result Source LineFault
in_slot n = Ok (Imm n)

-- a register where it begins with `r`
abbrev pub source_said : List ℕ → Result Source LineFault
source_said text = if has 0 114 text then and_then (register_said text) in_register else and_then (number_said text) in_slot

abbrev pub is_sign : ℕ → Bool
is_sign b = (b == 43) || (b == 45)

-- register, sign and digits, cut at the first sign
abbrev pub address_said : List ℕ → Result (Register × ℤ) LineFault
address_said inner =
    if position_or_len is_sign inner == length inner then Err Operands else
    and_then (register_said (take (position_or_len is_sign inner) inner)) (λ base.
    and_then (jump_said (2 ^ 15) (drop (position_or_len is_sign inner) inner)) (λ offset. Ok (base, offset)))

-- without the first and the last byte
abbrev pub inside : List ℕ → List ℕ
inside text = take (length text - 1 - 1) (drop 1 text)

-- in brackets
abbrev pub memory_said : List ℕ → Result (Register × ℤ) LineFault
memory_said text = if nat_le 2 (length text) && (has 0 91 text && has (length text - 1) 93 text) then
    address_said (inside text) else Err Operands
