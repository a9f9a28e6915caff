-- Operations and answers taken apart: a kind, the record of an operation, and the value, where the kind has one.
use Rattle.std.specs.Prelude.{◌≡◌, ℕ, Bool, true, false, List, Option, Some, None, IfSome}
use Rattle.access_slots.specs.declared.slot.Record.{Record}
use Rattle.access_slots.specs.declared.op.Op.{Op}
use Rattle.access_slots.specs.declared.op.Op.TheVariants.{Read, Insert, Update, Delete}
use Rattle.access_slots.specs.declared.op.Said.{Said}
use Rattle.access_slots.specs.declared.op.Said.TheVariants.{Value, Absent, Done, Duplicate, Missing, NoRoom, Old}
use Rattle.access_slots.specs.declared.kind.OpKind.{OpKind}
use Rattle.access_slots.specs.declared.kind.OpKind.TheVariants as kind
use Rattle.access_slots.specs.declared.kind.SaidKind.{SaidKind}
use Rattle.access_slots.specs.declared.kind.SaidKind.TheVariants as said
use Rattle.access_slots.specs.Locks.{target}

-- ---- operations

abbrev pub op_kind : Op → OpKind
op_kind (Read r) = kind.Read
op_kind (Insert r v) = kind.Insert
op_kind (Update r v) = kind.Update
op_kind (Delete r) = kind.Delete

-- the value that an operation writes
abbrev pub op_value : Op → Option (List ℕ)
op_value (Read r) = None
op_value (Insert r v) = Some v
op_value (Update r v) = Some v
op_value (Delete r) = None

-- the operation of a kind, whose value is this where it has one
abbrev pub op_of : OpKind → Record → List ℕ → Op
op_of kind.Read r v = Read r
op_of kind.Insert r v = Insert r v
op_of kind.Update r v = Update r v
op_of kind.Delete r v = Delete r

abbrev pub has_value : OpKind → Bool
has_value kind.Read = false
has_value kind.Insert = true
has_value kind.Update = true
has_value kind.Delete = false

-- of this kind an operation is made again of its record and its value; where it has none, any value makes it
abbrev pub IsOpAgain : Op → OpKind → Type 0
IsOpAgain o k = (v : List ℕ) → IfSome (op_value o) (λ w. v ≡ w) → op_of k (target o) v ≡ o

-- ---- answers

abbrev pub said_kind : Said → SaidKind
said_kind (Value v) = said.Value
said_kind Absent = said.Absent
said_kind (Done None) = said.Done
said_kind (Done (Some v)) = said.DoneWithFormer
said_kind Duplicate = said.Duplicate
said_kind Missing = said.Missing
said_kind NoRoom = said.NoRoom
said_kind Old = said.Old

-- the value that goes with what is said
abbrev pub said_value : Said → Option (List ℕ)
said_value (Value v) = Some v
said_value (Done former) = former
said_value _ = None

-- what is said, of a kind, whose value is this where it has one
abbrev pub said_of : SaidKind → List ℕ → Said
said_of said.Value v = Value v
said_of said.Absent v = Absent
said_of said.Done v = Done None
said_of said.DoneWithFormer v = Done (Some v)
said_of said.Duplicate v = Duplicate
said_of said.Missing v = Missing
said_of said.NoRoom v = NoRoom
said_of said.Old v = Old

abbrev pub is_said_with_value : SaidKind → Bool
is_said_with_value said.Value = true
is_said_with_value said.DoneWithFormer = true
is_said_with_value _ = false

-- of this kind an answer is made again of its value; where it has none, any value makes it
abbrev pub IsSaidAgain : Said → SaidKind → Type 0
IsSaidAgain a k = (v : List ℕ) → IfSome (said_value a) (λ w. v ≡ w) → said_of k v ≡ a
