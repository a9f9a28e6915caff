-- What operations give on kinds.
use Rattle.std.specs.Prelude.{◌%◌, ◌^◌, ℤ, pos, negsuc, ◌+ℤ◌, ◌-ℤ◌, ◌≤ℤ◌, ◌&&◌, Option, Some, None, if◌then◌else◌}
use Rattle.std.specs.Int.{w64, cast_signed}
use Rattle.std.specs.Int.RustNames.{int_le}
use Rattle.bpf_encoding.specs.Spelling.{number_of}
use Rattle.bpf_encoding.specs.declared.insn.Width.{Width}
use Rattle.bpf_encoding.specs.declared.insn.Width.TheVariants.{Bits32, Bits64}
use Rattle.bpf_encoding.specs.declared.insn.Source.{Source}
use Rattle.bpf_encoding.specs.declared.insn.Source.TheVariants.{Imm, Reg}
use Rattle.bpf_encoding.specs.declared.insn.Operation.{Operation}
use Rattle.bpf_encoding.specs.declared.insn.Operation.TheVariants.{Add, Sub, Mov}
use Rattle.semantics.specs.Arithmetic.{extended, sum, difference}
use Rattle.register_kinds.specs.declared.kind.Kind.{Kind}
use Rattle.register_kinds.specs.declared.kind.Kind.TheVariants.{Number, Const, Stack, Args, Buffer}
use Rattle.register_kinds.specs.declared.kinds.Kinds.{Kinds}
use Rattle.register_kinds.specs.Kinds.{kind_at}

-- a number in the slot counts as its constant
abbrev pub source_kind : Kinds → Source → Kind
source_kind ks (Imm n) = Const (extended n)
source_kind ks (Reg r) = kind_at ks (number_of r)

-- the signed view of a number of 64 bits, or that negated
abbrev pub IsStep : ℤ → Type 0
IsStep by = (negsuc (2 ^ 63) ≤ℤ by) × (by ≤ℤ pos (2 ^ 63))

-- an offset moved, where it isn't too far from its region's first byte
abbrev pub near : ℤ → ℤ → Option ℤ
near from by = if int_le (negsuc 65535) (from +ℤ by) && int_le (from +ℤ by) (pos 65536) then Some (from +ℤ by) else None

abbrev pub or_number : Option ℤ → (ℤ → Kind) → Kind
or_number None region = Number
or_number (Some offset) region = region offset

-- an address so many bytes on
abbrev pub moved_by : Kind → ℤ → Kind
moved_by (Stack from) by = or_number (near from by) Stack
moved_by (Args from) by = or_number (near from by) Args
moved_by (Buffer slot from) by = or_number (near from by) (Buffer slot)
moved_by k by = Number

abbrev pub sum_kind : Kind → Kind → Kind
sum_kind (Const a) (Const b) = Const (sum w64 a b)
sum_kind a (Const b) = moved_by a (cast_signed w64 b)
sum_kind (Const a) b = moved_by b (cast_signed w64 a)
sum_kind a b = Number

abbrev pub difference_kind : Kind → Kind → Kind
difference_kind (Const a) (Const b) = Const (difference w64 a b)
difference_kind a (Const b) = moved_by a (pos 0 -ℤ cast_signed w64 b)
difference_kind a b = Number

-- a copy of the low 32 bits is known where the number is
abbrev pub copied_kind : Width → Kind → Kind
copied_kind Bits64 k = k
copied_kind Bits32 (Const n) = Const (n % 2 ^ 32)
copied_kind Bits32 k = Number

abbrev pub alu_kind : Width → Operation → Kind → Kind → Kind
alu_kind width Mov a b = copied_kind width b
alu_kind Bits64 Add a b = sum_kind a b
alu_kind Bits64 Sub a b = difference_kind a b
alu_kind width operation a b = Number
