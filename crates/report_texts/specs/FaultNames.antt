-- The printed names of all faults: code, name and detail.
use Rattle.std.specs.Prelude.{ℕ, List, ◌++◌, codes, decimal}
use Rattle.access_slots.specs.declared.decl.DeclFault.{DeclFault}
use Rattle.access_slots.specs.declared.decl.DeclFault.TheVariants.{TooManyArgs, TooManySlots, NoSuchArg}
use Rattle.bpf_asm.specs.declared.assemble.AsmFault.{AsmFault}
use Rattle.bpf_asm.specs.declared.assemble.AsmFault.TheVariants as asm
use Rattle.bpf_asm.specs.declared.line.LineFault.{LineFault}
use Rattle.bpf_asm.specs.declared.line.LineFault.TheVariants.{UnknownWord, BadRegister, BadNumber, OutOfRange, Operands}
use Rattle.bpf_encoding.specs.declared.decode.DecodeFault.{DecodeFault}
use Rattle.bpf_encoding.specs.declared.decode.DecodeFault.TheVariants as decode
use Rattle.bpf_encoding.specs.declared.slot.Outside.{Outside}
use Rattle.bpf_encoding.specs.declared.slot.Outside.TheVariants.{Packet, WideSubtype, LocalCall, BtfCall}
use Rattle.register_kinds.specs.declared.kind.Violation.{Violation}
use Rattle.register_kinds.specs.declared.kind.Violation.TheVariants.{Backward, OutOfCode, IntoWide, FallsOff}
use Rattle.register_kinds.specs.declared.kind.Violation.TheVariants.{EmptyRegister, WritesR10, NotAPointer}
use Rattle.register_kinds.specs.declared.kind.Violation.TheVariants.{OutOfBounds, ReadOnly, MaybeNull, UnknownHelper}
use Rattle.register_kinds.specs.declared.kind.Violation.TheVariants.{SlotUnknown, ModeTooWeak, PointerReturned}
use Rattle.scripts.specs.declared.fault.ScriptFault.{ScriptFault}
use Rattle.scripts.specs.declared.fault.ScriptFault.TheVariants as script

abbrev pub outside_name : Outside → List ℕ
outside_name Packet = codes "Packet"
outside_name WideSubtype = codes "WideSubtype"
outside_name LocalCall = codes "LocalCall"
outside_name BtfCall = codes "BtfCall"

abbrev pub fault_name : DecodeFault → List ℕ
fault_name decode.NoCode = codes "E1 NoCode"
fault_name decode.Length = codes "E2 Length"
fault_name decode.TooLong = codes "E3 TooLong"
fault_name (decode.WideCut slot) = codes "E4 WideCut slot " ++ decimal slot
fault_name (decode.UnusedField slot) = codes "E5 UnusedField slot " ++ decimal slot
fault_name (decode.Undefined slot) = codes "E6 Undefined slot " ++ decimal slot
fault_name (decode.OutsideProfile slot which) = ((codes "E7 OutsideProfile slot " ++ decimal slot) ++ codes " ") ++ outside_name which
fault_name decode.Memory = codes "E8 Memory"

abbrev pub violation_name : Violation → List ℕ
violation_name Backward = codes "V1 Backward"
violation_name OutOfCode = codes "V2 OutOfCode"
violation_name IntoWide = codes "V3 IntoWide"
violation_name FallsOff = codes "V4 FallsOff"
violation_name EmptyRegister = codes "V5 EmptyRegister"
violation_name WritesR10 = codes "V6 WritesR10"
violation_name NotAPointer = codes "V7 NotAPointer"
violation_name OutOfBounds = codes "V8 OutOfBounds"
violation_name ReadOnly = codes "V9 ReadOnly"
violation_name MaybeNull = codes "V10 MaybeNull"
violation_name UnknownHelper = codes "V11 UnknownHelper"
violation_name SlotUnknown = codes "V12 SlotUnknown"
violation_name ModeTooWeak = codes "V13 ModeTooWeak"
violation_name PointerReturned = codes "V14 PointerReturned"

abbrev pub line_fault_name : LineFault → List ℕ
line_fault_name UnknownWord = codes "A1 UnknownWord"
line_fault_name BadRegister = codes "A2 BadRegister"
line_fault_name BadNumber = codes "A3 BadNumber"
line_fault_name OutOfRange = codes "A4 OutOfRange"
line_fault_name Operands = codes "A5 Operands"

abbrev pub asm_fault_name : AsmFault → List ℕ
asm_fault_name (asm.Line number e) = (line_fault_name e ++ codes " line ") ++ decimal number
asm_fault_name (asm.TooLong number) = codes "A7 TooLong line " ++ decimal number
asm_fault_name asm.NoCode = codes "A8 NoCode line 0"
asm_fault_name asm.Memory = codes "A6 Memory"

abbrev pub decl_fault_name : DeclFault → List ℕ
decl_fault_name TooManyArgs = codes "S1 TooManyArgs"
decl_fault_name TooManySlots = codes "S2 TooManySlots"
decl_fault_name (NoSuchArg slot) = codes "S3 NoSuchArg slot " ++ decimal slot

abbrev pub script_fault_name : ScriptFault → List ℕ
script_fault_name script.BadLine = codes "F1 BadLine"
script_fault_name script.BadNumber = codes "F2 BadNumber"
script_fault_name script.NameTaken = codes "F3 NameTaken"
script_fault_name script.NameUnknown = codes "F4 NameUnknown"
script_fault_name (script.Decl fault) = codes "F5 Decl " ++ decl_fault_name fault
script_fault_name (script.Asm fault) = codes "F6 Asm " ++ line_fault_name fault
script_fault_name script.TooLong = codes "F6 Asm A7 TooLong"
script_fault_name script.NoCode = codes "F6 Asm A8 NoCode"
script_fault_name script.DcUnknown = codes "F8 DcUnknown"
script_fault_name script.Order = codes "F9 Order"
