-- What is wrong with a slot (RFC 9669, sections 3 to 5, and this profile), read off its fields alone.
use Rattle.std.specs.Prelude.{ℕ, pos, Bool, true, false, ◌==◌, ◌&&◌, ◌||◌, not, nat_le, if◌then◌else◌, Option, Some, None}
use Rattle.std.specs.Ordering.{int_eq}
use Rattle.bpf_encoding.specs.Fields.{Fields, class_of, takes_register, code_of, mode_of}
use Rattle.bpf_encoding.specs.declared.slot.SlotFault.{SlotFault}
use Rattle.bpf_encoding.specs.declared.slot.SlotFault.TheVariants.{UnusedField, Undefined, OutsideProfile}
use Rattle.bpf_encoding.specs.declared.slot.Outside.{Outside}
use Rattle.bpf_encoding.specs.declared.slot.Outside.TheVariants.{Packet, WideSubtype, LocalCall, BtfCall}

-- the fields that a form uses; a selecting field counts as used
pub record Uses : Type 0 where
  pub dst : Bool
  pub src : Bool
  pub offset : Bool
  pub imm : Bool

abbrev pub uses : Bool → Bool → Bool → Bool → Option Uses
uses d s o i = Some (record { dst = d; src = s; offset = o; imm = i })

abbrev pub uses_if : Bool → Option Uses → Option Uses
uses_if b u = if b then u else None

-- ---- the tables of forms: None is no form

-- byte order conversions
abbrev pub order_uses : Fields → Option Uses
order_uses f = uses_if (int_eq f.imm (pos 16) || (int_eq f.imm (pos 32) || int_eq f.imm (pos 64))) (uses true false false true)

-- arithmetic: is64 tells ALU64 from ALU, x a second operand in src
abbrev pub alu_uses : Bool → ℕ → Bool → Fields → Option Uses
alu_uses is64 code x f =
    if (code == 3) || (code == 9) then uses_if (int_eq f.offset (pos 0) || int_eq f.offset (pos 1)) (uses true x true (not x)) else
    if code == 8 then uses_if (not x) (uses true false false false) else
    if code == 11 then (
    if x then uses_if
    (int_eq f.offset (pos 0) || (int_eq f.offset (pos 8) || (int_eq f.offset (pos 16) || (is64 && int_eq f.offset (pos 32)))))
    (uses true true true false)
    else uses_if (int_eq f.offset (pos 0)) (uses true false true true)
    ) else
    if code == 13 then (if is64 && x then None else order_uses f) else
    uses_if (nat_le code 12) (uses true x false (not x))

abbrev pub jump_uses : ℕ → Bool → Fields → Option Uses
jump_uses code x f =
    if code == 0 then uses_if (not x) (uses false false true false) else
    if code == 8 then uses_if (not x && (f.src == 0)) (uses false true false true) else
    if code == 9 then uses_if (not x) (uses false false false false) else
    uses_if (nat_le code 13) (uses true x true (not x))

abbrev pub jump32_uses : ℕ → Bool → Fields → Option Uses
jump32_uses code x f =
    if code == 0 then uses_if (not x) (uses false false false true) else
    uses_if (nat_le code 13 && (not (code == 8) && not (code == 9))) (uses true x true (not x))

abbrev pub load_uses : ℕ → Option Uses
load_uses opcode =
    uses_if
    ((opcode == 0x61) || ((opcode == 0x69) || ((opcode == 0x71) || ((opcode == 0x79)
    || ((opcode == 0x81) || ((opcode == 0x89) || (opcode == 0x91)))))))
    (uses true true true false)

abbrev pub store_imm_uses : ℕ → Option Uses
store_imm_uses opcode =
    uses_if ((opcode == 0x62) || ((opcode == 0x6a) || ((opcode == 0x72) || (opcode == 0x7a)))) (uses true false true true)

abbrev pub store_uses : ℕ → Option Uses
store_uses opcode = uses_if ((opcode == 0x63) || ((opcode == 0x6b) || ((opcode == 0x73) || (opcode == 0x7b)))) (uses true true true false)

-- ADD, OR, AND and XOR, each without and with FETCH; XCHG; CMPXCHG
abbrev pub atomic_uses : Fields → Option Uses
atomic_uses f =
    uses_if
    (int_eq f.imm (pos 0x00) || (int_eq f.imm (pos 0x40) || (int_eq f.imm (pos 0x50)
    || (int_eq f.imm (pos 0xa0) || (int_eq f.imm (pos 0x01) || (int_eq f.imm (pos 0x41)
    || (int_eq f.imm (pos 0x51) || (int_eq f.imm (pos 0xa1) || (int_eq f.imm (pos 0xe1) || int_eq f.imm (pos 0xf1))))))))))
    (uses true true true true)

-- stores of a register; atomic operations have the mode ATOMIC and the sizes W and DW
abbrev pub stx_uses : Fields → Option Uses
stx_uses f = if (f.opcode == 0xc3) || (f.opcode == 0xdb) then atomic_uses f else store_uses f.opcode

abbrev pub wide_uses : Fields → Option Uses
wide_uses f = uses_if ((f.opcode == 0x18) && (f.src == 0)) (uses true true false true)

abbrev pub uses_of : Fields → Option Uses
uses_of f =
    if class_of f.opcode == 0 then wide_uses f else
    if class_of f.opcode == 1 then load_uses f.opcode else
    if class_of f.opcode == 2 then store_imm_uses f.opcode else
    if class_of f.opcode == 3 then stx_uses f else
    if class_of f.opcode == 4 then alu_uses false (code_of f.opcode) (takes_register f.opcode) f else
    if class_of f.opcode == 5 then jump_uses (code_of f.opcode) (takes_register f.opcode) f else
    if class_of f.opcode == 6 then jump32_uses (code_of f.opcode) (takes_register f.opcode) f else
    alu_uses true (code_of f.opcode) (takes_register f.opcode) f

-- ---- what of the standard this profile leaves out

abbrev pub outside_if : Bool → Outside → Option Outside → Option Outside
outside_if b which later = if b then Some which else later

abbrev pub outside_of : Fields → Option Outside
outside_of f =
    outside_if ((class_of f.opcode == 0) && ((mode_of f.opcode == 1) || (mode_of f.opcode == 2))) Packet (
    outside_if ((f.opcode == 0x18) && (nat_le 1 f.src && nat_le f.src 6)) WideSubtype (
    outside_if ((f.opcode == 0x85) && (f.src == 1)) LocalCall (
    outside_if ((f.opcode == 0x85) && (f.src == 2)) BtfCall None)))

-- ---- the first fault of a slot

-- a used register is one of the eleven
abbrev pub names_register : Bool → ℕ → Bool
names_register true r = nat_le r 10
names_register false r = true

-- a field that isn't used is 0
abbrev pub is_blank : Bool → Bool → Bool
is_blank true zero = true
is_blank false zero = zero

abbrev pub are_registers : Uses → Fields → Bool
are_registers u f = names_register u.dst f.dst && names_register u.src f.src

abbrev pub are_blank : Uses → Fields → Bool
are_blank u f =
    is_blank u.dst (f.dst == 0) && (is_blank u.src (f.src == 0)
    && (is_blank u.offset (int_eq f.offset (pos 0)) && is_blank u.imm (int_eq f.imm (pos 0))))

abbrev pub fault_by : Option Uses → Fields → Option SlotFault
fault_by None f = Some Undefined
fault_by (Some u) f = if are_registers u f then (if are_blank u f then None else Some UnusedField) else Some Undefined

abbrev pub fault_within : Option Outside → Option Uses → Fields → Option SlotFault
fault_within (Some which) u f = Some (OutsideProfile which)
fault_within None u f = fault_by u f

abbrev pub fault_of : Fields → Option SlotFault
fault_of f = fault_within (outside_of f) (uses_of f) f

-- the first four bytes of a wide instruction's second slot are 0
abbrev pub is_second : Fields → Bool
is_second f = (f.opcode == 0) && ((f.dst == 0) && ((f.src == 0) && int_eq f.offset (pos 0)))
