-- The kinds of the eleven registers.
use Rattle.std.specs.Prelude.{ℕ, ◌==◌, pos, Bool, true, false, ◌&&◌, List, [], ◌∷◌, Option, Some, None, Result, Err, slice_set}
use Rattle.std.specs.List.{slice_index_or}
use Rattle.std.specs.Ordering.{int_eq}
use Rattle.register_kinds.specs.declared.kind.Kind.{Kind}
use Rattle.register_kinds.specs.declared.kind.Kind.TheVariants.{Empty, Number, Const, Stack, Args, Buffer, MaybeBuffer}
use Rattle.register_kinds.specs.declared.kind.Violation.{Violation}
use Rattle.register_kinds.specs.declared.kinds.Kinds.{Kinds}

-- register 1 has the arguments' address, register 10 that of the end of the stack of 512 bytes
abbrev pub entry_kinds : Kinds
entry_kinds = record {
  registers = Empty ∷ Args (pos 0) ∷ Empty ∷ Empty ∷ Empty ∷ Empty ∷ Empty ∷ Empty ∷ Empty
      ∷ Empty ∷ Stack (pos 512) ∷ [];
}

abbrev pub kind_at : Kinds → ℕ → Kind
kind_at ks r = slice_index_or ks.registers r Empty

abbrev pub with_kind : Kinds → ℕ → Kind → Kinds
with_kind ks r k = record { registers = slice_set ks.registers r k }

-- register 0 has the answer, and registers 1 to 5 are empty
abbrev pub after_call : Kinds → Kind → Kinds
after_call ks answer =
    with_kind (with_kind (with_kind (with_kind (with_kind (with_kind ks 0 answer) 1 Empty) 2 Empty) 3 Empty) 4 Empty) 5 Empty

abbrev pub is_present : Kind → Bool
is_present Empty = false
is_present k = true

-- a number, and no address
abbrev pub is_plain : Kind → Bool
is_plain Number = true
is_plain (Const n) = true
is_plain k = false

abbrev pub same_or_number : Bool → Kind → Kind
same_or_number true k = k
same_or_number false k = Number

-- equal kinds stay, Empty with anything is Empty, all else is Number
abbrev pub join_of : Kind → Kind → Kind
join_of Empty b = Empty
join_of (Const m) (Const n) = same_or_number (m == n) (Const m)
join_of (Stack o) (Stack p) = same_or_number (int_eq o p) (Stack o)
join_of (Args o) (Args p) = same_or_number (int_eq o p) (Args o)
join_of (Buffer k o) (Buffer l p) = same_or_number ((k == l) && int_eq o p) (Buffer k o)
join_of (MaybeBuffer k) (MaybeBuffer l) = same_or_number (k == l) (MaybeBuffer k)
join_of a Empty = Empty
join_of a b = Number

-- register by register
abbrev pub join_all : List Kind → List Kind → List Kind
join_all [] ls = []
join_all (k ∷ ks) [] = []
join_all (k ∷ ks) (l ∷ ls) = join_of k l ∷ join_all ks ls

abbrev pub join_kinds : Kinds → Kinds → Kinds
join_kinds a b = record { registers = join_all a.registers b.registers }

-- goes on where it holds, and else is refused so
abbrev pub check : {A : Type 0} → Bool → Violation → Result A Violation → Result A Violation
check true v r = r
check false v r = Err v

-- goes on where nothing is wrong
abbrev pub refuse : {A : Type 0} → Option Violation → Result A Violation → Result A Violation
refuse None r = r
refuse (Some v) r = Err v
