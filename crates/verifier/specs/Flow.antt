-- What is wrong with the way that code goes on from a slot, whatever the kinds.
use Rattle.std.specs.Prelude.{ℕ, ◌+◌, ℤ, pos, ◌+ℤ◌, Bool, true, false, ◌&&◌, nat_le, if◌then◌else◌, List, length, Option, Some, None, slice_get}
use Rattle.semantics.specs.Step.{place_of}
use Rattle.bpf_encoding.specs.declared.insn.Insn.{Insn}
use Rattle.bpf_encoding.specs.declared.insn.Insn.TheVariants.{Jump, JumpLong, Call, Exit}
use Rattle.bpf_encoding.specs.declared.insn.Place.{Place}
use Rattle.bpf_encoding.specs.declared.insn.Place.TheVariants as place
use Rattle.register_kinds.specs.declared.kind.Violation.{Violation}
use Rattle.register_kinds.specs.declared.kind.Violation.TheVariants.{Backward, OutOfCode, IntoWide, FallsOff, UnknownHelper}
use Rattle.register_kinds.specs.Calls.{is_helper}
use Rattle.register_kinds.specs.Arriving.{next_place, jump_offset}

abbrev pub is_second_slot : Option Place → Bool
is_second_slot None = false
is_second_slot (Some (place.Insn i)) = false
is_second_slot (Some place.Second) = true

-- of a jump to this place
abbrev pub target_flaw : List Place → ℕ → Option ℕ → Option Violation
target_flaw code at None = Some Backward
target_flaw code at (Some to) =
    if nat_le to at then Some Backward else
    if nat_le (length code) to then Some OutOfCode else
    if is_second_slot (slice_get code to) then Some IntoWide else None

abbrev pub jump_flaw : List Place → ℕ → Option ℤ → Option Violation
jump_flaw code at None = None
jump_flaw code at (Some offset) = target_flaw code at (place_of (pos (at + 1) +ℤ offset))

-- all but an exit and a jump always taken
abbrev pub goes_on : Insn → Bool
goes_on (Jump offset) = false
goes_on (JumpLong offset) = false
goes_on Exit = false
goes_on i = true

abbrev pub fall_flaw : List Place → ℕ → Insn → Option Violation
fall_flaw code at i = if goes_on i && nat_le (length code) (next_place at i) then Some FallsOff else None

-- of a call of a helper that there isn't
abbrev pub call_flaw : Insn → Option Violation
call_flaw (Call helper) = if is_helper helper then None else Some UnknownHelper
call_flaw i = None

abbrev pub or_else : Option Violation → Option Violation → Option Violation
or_else None later = later
or_else (Some v) later = Some v

abbrev pub flow_violation : List Place → ℕ → Insn → Option Violation
flow_violation code at i = or_else (jump_flaw code at (jump_offset i)) (or_else (fall_flaw code at i) (call_flaw i))

abbrev pub flow_by : List Place → ℕ → Option Place → Option Violation
flow_by code at None = None
flow_by code at (Some place.Second) = None
flow_by code at (Some (place.Insn i)) = flow_violation code at i

abbrev pub flow_at : List Place → ℕ → Option Violation
flow_at code at = flow_by code at (slice_get code at)
