-- What a call of a helper does to the kinds: read 1, insert 2, update 3, delete 4, buffer 5.
use Rattle.std.specs.Prelude.{ℕ, ℤ, pos, Bool, ◌&&◌, ◌||◌, not, Option, Some, None, Result, Ok, Err, if◌then◌else◌, slice_get}
use Rattle.std.specs.Int.RustNames.{int_le}
use Rattle.std.specs.Ordering.{int_eq}
use Rattle.access_slots.specs.Access.{writes}
use Rattle.access_slots.specs.Declaration.{Declaration}
use Rattle.access_slots.specs.declared.slot.Mode.{Mode}
use Rattle.access_slots.specs.declared.slot.Slot.{Slot}
use Rattle.register_kinds.specs.declared.kind.Kind.{Kind}
use Rattle.register_kinds.specs.declared.kind.Kind.TheVariants.{Number, Const, Buffer, MaybeBuffer}
use Rattle.register_kinds.specs.declared.kind.Violation.{Violation}
use Rattle.register_kinds.specs.declared.kind.Violation.TheVariants.{SlotUnknown, ModeTooWeak}
use Rattle.register_kinds.specs.declared.kinds.Kinds.{Kinds}
use Rattle.register_kinds.specs.declared.kinds.Ways.{Ways}
use Rattle.register_kinds.specs.Kinds.{check, after_call}

abbrev pub is_helper : ℤ → Bool
is_helper helper = int_le (pos 1) helper && int_le helper (pos 5)

-- insert, update and delete
abbrev pub writes_by : ℤ → Bool
writes_by helper = int_le (pos 2) helper && int_le helper (pos 4)

-- whether the helper may be called at a slot of this mode
abbrev pub suffices : Mode → ℤ → Bool
suffices mode helper = writes mode || not (writes_by helper)

-- a read answers the address of the slot's buffer, or 0
abbrev pub answer_kind : ℤ → ℕ → Kind
answer_kind helper slot =
    if int_eq helper (pos 1) then MaybeBuffer slot else
    if int_eq helper (pos 5) then Buffer slot (pos 0) else Number

abbrev pub called_at : Kinds → ℤ → ℕ → Mode → Result Ways Violation
called_at ks helper k mode = check (suffices mode helper) ModeTooWeak
    (Ok (record { next = Some (after_call ks (answer_kind helper k)); jump = None }))

abbrev pub called_slot : Kinds → ℤ → ℕ → Option Slot → Result Ways Violation
called_slot ks helper k None = Err SlotUnknown
called_slot ks helper k (Some slot) = called_at ks helper k slot.mode

-- by the kind of register 1
abbrev pub called_by : Declaration → Kinds → ℤ → Kind → Result Ways Violation
called_by decl ks helper (Const k) = called_slot ks helper k (slice_get decl.slots k)
called_by decl ks helper kind = Err SlotUnknown
