-- What may be loaded and stored by a register of a kind.
use Rattle.std.specs.Prelude.{ℕ, ◌*◌, ℤ, pos, ◌+ℤ◌, Bool, true, false, ◌&&◌, Option, Some, None, if◌then◌else◌}
use Rattle.std.specs.Int.RustNames.{int_le}
use Rattle.access_slots.specs.Declaration.{Declaration}
use Rattle.register_kinds.specs.declared.kind.Kind.{Kind}
use Rattle.register_kinds.specs.declared.kind.Kind.TheVariants.{Empty, Number, Const, Stack, Args, Buffer, MaybeBuffer}
use Rattle.register_kinds.specs.declared.kind.Violation.{Violation}
use Rattle.register_kinds.specs.declared.kind.Violation.TheVariants.{NotAPointer, OutOfBounds, ReadOnly, MaybeNull}

-- all of the bytes lie in a region of this length
abbrev pub is_within : ℕ → ℤ → ℕ → Bool
is_within length at bytes = int_le (pos 0) at && int_le (at +ℤ pos bytes) (pos length)

abbrev pub bounds : ℕ → ℤ → ℕ → Option Violation
bounds length at bytes = if is_within length at bytes then None else Some OutOfBounds

abbrev pub bounds_of_arguments : Bool → ℕ → ℤ → ℕ → Option Violation
bounds_of_arguments true length at bytes = Some ReadOnly
bounds_of_arguments false length at bytes = bounds length at bytes

-- what is wrong with a load of so many bytes at the offset from such an address, or with a store there
abbrev pub access : Declaration → Bool → Kind → ℤ → ℕ → Option Violation
access decl stores Empty offset bytes = Some NotAPointer
access decl stores Number offset bytes = Some NotAPointer
access decl stores (Const n) offset bytes = Some NotAPointer
access decl stores (MaybeBuffer slot) offset bytes = Some MaybeNull
access decl stores (Stack from) offset bytes = bounds 512 (from +ℤ offset) bytes
access decl stores (Args from) offset bytes = bounds_of_arguments stores (8 * decl.args) (from +ℤ offset) bytes
access decl stores (Buffer slot from) offset bytes = bounds 64 (from +ℤ offset) bytes
