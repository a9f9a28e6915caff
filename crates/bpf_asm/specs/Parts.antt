-- An instruction as its mnemonic and its operands, and the text of both.
use Rattle.std.specs.Prelude.{FitsSigned, IfSome, ◌<◌, ◌^◌, ℕ, zero, suc, ◌/◌, ◌%◌, ℤ, pos, negsuc, List, [], ◌∷◌, ◌++◌, Option, Some, None, codes}
use Rattle.std.specs.Int.{w16, w32}
use Rattle.std.specs.Fmt.{decimal, signed_decimal}
use Rattle.std.specs.Char.{digit_char}
use Rattle.bpf_encoding.specs.declared.insn.Insn.{Insn}
use Rattle.bpf_encoding.specs.declared.insn.Insn.TheVariants as insn
use Rattle.bpf_encoding.specs.declared.insn.Source.{Source}
use Rattle.bpf_encoding.specs.declared.insn.Source.TheVariants as source
use Rattle.bpf_encoding.specs.declared.insn.Place.{Place}
use Rattle.bpf_encoding.specs.declared.insn.Place.TheVariants as place
use Rattle.bpf_asm.specs.declared.mnemonic.Mnemonic.{Mnemonic}
use Rattle.bpf_asm.specs.declared.mnemonic.Mnemonic.TheVariants as mnemonic
use Rattle.bpf_asm.specs.declared.parts.Operand.{Operand}
use Rattle.bpf_asm.specs.declared.parts.Operand.TheVariants.{Reg, Number, Wide, Jump, JumpLong, Memory}
use Rattle.bpf_asm.specs.declared.parts.Parts.{Parts}
use Rattle.bpf_asm.specs.Mnemonics.{mnemonic_name}
use Rattle.bpf_asm.specs.Operand.{register_name}

abbrev pub with_none : Mnemonic → Parts
with_none m = record { mnemonic = m; first = None; second = None; third = None }

abbrev pub with_one : Mnemonic → Operand → Parts
with_one m a = record { mnemonic = m; first = Some a; second = None; third = None }

abbrev pub with_two : Mnemonic → Operand → Operand → Parts
with_two m a b = record { mnemonic = m; first = Some a; second = Some b; third = None }

abbrev pub with_three : Mnemonic → Operand → Operand → Operand → Parts
with_three m a b c = record { mnemonic = m; first = Some a; second = Some b; third = Some c }

abbrev pub source_operand : Source → Operand
source_operand (source.Imm n) = Number n
source_operand (source.Reg r) = Reg r

abbrev pub parts_of : Insn → Parts
parts_of (insn.Alu width operation dst second) = with_two (mnemonic.Alu width operation) (Reg dst) (source_operand second)
parts_of (insn.Negate width dst) = with_one (mnemonic.Negate width) (Reg dst)
parts_of (insn.MoveSigned extension dst src) = with_two (mnemonic.MoveSigned extension) (Reg dst) (Reg src)
parts_of (insn.Order order width dst) = with_one (mnemonic.Order order width) (Reg dst)
parts_of (insn.LoadWide dst value) = with_two mnemonic.LoadWide (Reg dst) (Wide value)
parts_of (insn.Jump offset) = with_one mnemonic.Jump (Jump offset)
parts_of (insn.JumpLong offset) = with_one mnemonic.JumpLong (JumpLong offset)
parts_of (insn.JumpIf width condition dst second offset) =
    with_three (mnemonic.JumpIf width condition) (Reg dst) (source_operand second) (Jump offset)
parts_of (insn.Load size dst base offset) = with_two (mnemonic.Load size) (Reg dst) (Memory base offset)
parts_of (insn.LoadSigned size dst base offset) = with_two (mnemonic.LoadSigned size) (Reg dst) (Memory base offset)
parts_of (insn.StoreImm size base offset imm) = with_two (mnemonic.StoreImm size) (Memory base offset) (Number imm)
parts_of (insn.Store size base src offset) = with_two (mnemonic.Store size) (Memory base offset) (Reg src)
parts_of (insn.Atomic width operation base src offset) = with_two (mnemonic.Atomic width operation) (Memory base offset) (Reg src)
parts_of (insn.Call helper) = with_one mnemonic.Call (Number helper)
parts_of insn.Exit = with_none mnemonic.Exit

-- ---- numbers

-- each number is one of its type
abbrev pub IsOperand : Operand → Type 0
IsOperand (Reg r) = Unit {0}
IsOperand (Number n) = FitsSigned w32 n
IsOperand (Wide value) = value < 2 ^ 64
IsOperand (Jump offset) = FitsSigned w16 offset
IsOperand (JumpLong offset) = FitsSigned w32 offset
IsOperand (Memory base offset) = FitsSigned w16 offset

abbrev pub AreOperands : Parts → Type 0
AreOperands p = IfSome p.first IsOperand × IfSome p.second IsOperand × IfSome p.third IsOperand

-- ---- text

-- the lowest digits, this many, in lower case
abbrev pub hex_text : ℕ → ℕ → List ℕ
hex_text zero n = []
hex_text (suc k) n = hex_text k (n / 16) ++ digit_char (n % 16) ∷ []

unfoldable pub wide_text : ℕ → List ℕ
wide_text value = codes "0x" ++ hex_text 16 value

-- the sign is always there
abbrev pub offset_text : ℤ → List ℕ
offset_text (pos n) = 43 ∷ decimal n
offset_text (negsuc n) = 45 ∷ decimal (suc n)

abbrev pub operand_text : Operand → List ℕ
operand_text (Reg r) = register_name r
operand_text (Number n) = signed_decimal n
operand_text (Wide value) = wide_text value
operand_text (Jump offset) = offset_text offset
operand_text (JumpLong offset) = offset_text offset
operand_text (Memory base offset) = ((codes "[" ++ register_name base) ++ offset_text offset) ++ codes "]"

-- behind this separator
abbrev pub placed : List ℕ → Option Operand → List ℕ
placed separator None = []
placed separator (Some o) = separator ++ operand_text o

-- the mnemonic, a space, and the operands with `, ` between
abbrev pub line_of_parts : Parts → List ℕ
line_of_parts p = ((mnemonic_name p.mnemonic ++ placed (codes " ") p.first) ++ placed (codes ", ") p.second) ++ placed (codes ", ") p.third

abbrev pub line_of : Insn → List ℕ
line_of i = line_of_parts (parts_of i)

-- ---- code

-- each line ends with LF; the second slot of a wide instruction has none
abbrev pub place_text : Place → List ℕ
place_text (place.Insn i) = line_of i ++ codes "\n"
place_text place.Second = []

abbrev pub text_of : List Place → List ℕ
text_of [] = []
text_of (p ∷ places) = place_text p ++ text_of places

-- the operands at this place are what their types have
abbrev pub AreOperandsAt : Place → Type 0
AreOperandsAt (place.Insn i) = AreOperands (parts_of i)
AreOperandsAt place.Second = Unit {0}
