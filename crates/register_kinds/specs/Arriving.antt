-- The kinds at a slot: at slot 0 those of the entry, and the join over the reached slots below it and each of their ways to it.
use Rattle.std.specs.Prelude.{ℕ, zero, suc, ◌+◌, ℤ, pos, ◌+ℤ◌, ◌==◌, if◌then◌else◌, List, Option, Some, None, Result, Ok, Err, slice_get}
use Rattle.access_slots.specs.Declaration.{Declaration}
use Rattle.semantics.specs.Step.{place_of}
use Rattle.bpf_encoding.specs.Spelling.{is_wide}
use Rattle.bpf_encoding.specs.declared.insn.Insn.{Insn}
use Rattle.bpf_encoding.specs.declared.insn.Insn.TheVariants.{Alu, Negate, MoveSigned, Order, LoadWide, Jump}
use Rattle.bpf_encoding.specs.declared.insn.Insn.TheVariants.{JumpLong, JumpIf, Load, LoadSigned, StoreImm, Store}
use Rattle.bpf_encoding.specs.declared.insn.Insn.TheVariants.{Atomic, Call, Exit}
use Rattle.bpf_encoding.specs.declared.insn.Place.{Place}
use Rattle.bpf_encoding.specs.declared.insn.Place.TheVariants as place
use Rattle.register_kinds.specs.declared.kind.Violation.{Violation}
use Rattle.register_kinds.specs.declared.kinds.Kinds.{Kinds}
use Rattle.register_kinds.specs.declared.kinds.Ways.{Ways}
use Rattle.register_kinds.specs.Kinds.{entry_kinds, join_kinds}
use Rattle.register_kinds.specs.Transfer.{transfer_of}

-- the slot behind an instruction
abbrev pub next_place : ℕ → Insn → ℕ
next_place at i = if is_wide i then at + 2 else at + 1

-- the offset of a jump, counted from the slot behind it
abbrev pub jump_offset : Insn → Option ℤ
jump_offset (Alu width operation dst source) = None
jump_offset (Negate width dst) = None
jump_offset (MoveSigned extension dst src) = None
jump_offset (Order order width dst) = None
jump_offset (LoadWide dst value) = None
jump_offset (Jump offset) = Some offset
jump_offset (JumpLong offset) = Some offset
jump_offset (JumpIf width condition dst source offset) = Some offset
jump_offset (Load size dst base offset) = None
jump_offset (LoadSigned size dst base offset) = None
jump_offset (StoreImm size base offset imm) = None
jump_offset (Store size base src offset) = None
jump_offset (Atomic width operation base src offset) = None
jump_offset (Call helper) = None
jump_offset Exit = None

abbrev pub target_by : ℕ → Option ℤ → Option ℕ
target_by at None = None
target_by at (Some offset) = place_of (pos (at + 1) +ℤ offset)

-- where a jump leads, if it leads anywhere
abbrev pub jump_place : ℕ → Insn → Option ℕ
jump_place at i = target_by at (jump_offset i)

-- what is known where a further way arrives
abbrev pub merge : Option Kinds → Kinds → Kinds
merge None ks = ks
merge (Some before) ks = join_kinds before ks

-- what is known at a slot, where these kinds come along a way to another or the same
abbrev pub along : Option ℕ → Option Kinds → ℕ → Option Kinds → Option Kinds
along None after at before = before
along (Some to) None at before = before
along (Some to) (Some after) at before = if at == to then Some (merge before after) else before

abbrev pub along_ways : ℕ → Insn → Result Ways Violation → ℕ → Option Kinds → Option Kinds
along_ways from i (Err v) at before = before
along_ways from i (Ok ways) at before = along (jump_place from i) ways.jump at (along (Some (next_place from i)) ways.next at before)

abbrev pub along_from : Declaration → ℕ → Option Place → Option Kinds → ℕ → Option Kinds → Option Kinds
along_from decl from None kinds at before = before
along_from decl from (Some place.Second) kinds at before = before
along_from decl from (Some (place.Insn i)) None at before = before
along_from decl from (Some (place.Insn i)) (Some ks) at before = along_ways from i (transfer_of decl i ks) at before

-- what is known at a slot by the ways from the first n slots
abbrev pub arriving : Declaration → List Place → ℕ → ℕ → Option Kinds
arriving decl code zero at = if at == 0 then Some entry_kinds else None
arriving decl code (suc n) at = along_from decl n (slice_get code n) (arriving decl code n n) at (arriving decl code n at)

-- what is known at a slot; None where it isn't reached
abbrev pub kinds_at : Declaration → List Place → ℕ → Option Kinds
kinds_at decl code at = arriving decl code at at

abbrev pub violation_of : Result Ways Violation → Option Violation
violation_of (Ok ways) = None
violation_of (Err v) = Some v

abbrev pub violation_by : Declaration → Option Place → Option Kinds → Option Violation
violation_by decl None kinds = None
violation_by decl (Some place.Second) kinds = None
violation_by decl (Some (place.Insn i)) None = None
violation_by decl (Some (place.Insn i)) (Some ks) = violation_of (transfer_of decl i ks)

-- what the instruction at a reached slot may not do
abbrev pub violation_at : Declaration → List Place → ℕ → Option Violation
violation_at decl code at = violation_by decl (slice_get code at) (kinds_at decl code at)
