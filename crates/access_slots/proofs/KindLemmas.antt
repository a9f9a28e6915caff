-- Operations and answers, taken apart and made again.
use Rattle.std.proofs.Common.{◌≡◌, ◌∙◌, ℕ, false, List, refl, ap, subst}
use Rattle.std.specs.Prelude.{true, Option, Some, None, IfSome}
use Rattle.access_slots.specs.declared.slot.Record.{Record}
use Rattle.access_slots.specs.declared.op.Op.{Op}
use Rattle.access_slots.specs.declared.op.Op.TheVariants.{Read, Insert, Update, Delete}
use Rattle.access_slots.specs.declared.op.Said.{Said}
use Rattle.access_slots.specs.declared.op.Said.TheVariants.{Value, Absent, Done, Duplicate, Missing, NoRoom, Old}
use Rattle.access_slots.specs.declared.kind.OpKind.{OpKind}
use Rattle.access_slots.specs.declared.kind.OpKind.TheVariants as kind
use Rattle.access_slots.specs.declared.kind.SaidKind.{SaidKind}
use Rattle.access_slots.specs.declared.kind.SaidKind.TheVariants as said
use Rattle.access_slots.specs.Locks.{target}
use Rattle.access_slots.specs.Kinds.{op_kind, op_value, op_of, has_value, IsOpAgain}
use Rattle.access_slots.specs.Kinds.{said_kind, said_value, said_of, is_said_with_value, IsSaidAgain}

pub op_again : (o : Op) → IsOpAgain o (op_kind o)
op_again (Read r) v is = refl
op_again (Insert r w) v is = ap (λ x. Insert r x) is
op_again (Update r w) v is = ap (λ x. Update r x) is
op_again (Delete r) v is = refl

pub said_again : (a : Said) → IsSaidAgain a (said_kind a)
said_again (Value w) v is = ap (λ x. Value x) is
said_again Absent v is = refl
said_again (Done None) v is = refl
said_again (Done (Some w)) v is = ap (λ x. Done (Some x)) is
said_again Duplicate v is = refl
said_again Missing v is = refl
said_again NoRoom v is = refl
said_again Old v is = refl

-- an operation is what its kind, its record and its value make, and an answer what its kind and its value make
pub op_made : (o : Op) (k : OpKind) (r : Record) (value : Option (List ℕ)) (v : List ℕ)
    → IsOpAgain o k → r ≡ target o → value ≡ op_value o → IfSome value (λ w. v ≡ w) → op_of k r v ≡ o
op_made o k r value v again named written is =
    ap (λ (q : Record). op_of k q v) named
    ∙ again v (subst (λ (x : Option (List ℕ)). IfSome x (λ w. v ≡ w)) written is)

pub said_made : (a : Said) (k : SaidKind) (value : Option (List ℕ)) (v : List ℕ)
    → IsSaidAgain a k → value ≡ said_value a → IfSome value (λ w. v ≡ w) → said_of k v ≡ a
said_made a k value v again told is = again v (subst (λ (x : Option (List ℕ)). IfSome x (λ w. v ≡ w)) told is)

-- where a kind has no value, one is as good as another
pub any_value : (k : OpKind) (r : Record) (v w : List ℕ) → has_value k ≡ false → op_of k r v ≡ op_of k r w
any_value kind.Read r v w none = refl
any_value kind.Insert r v w none = absurd (let bad : true ≡ false = none in cc)
any_value kind.Update r v w none = absurd (let bad : true ≡ false = none in cc)
any_value kind.Delete r v w none = refl

pub any_value_said : (k : SaidKind) (v w : List ℕ) → is_said_with_value k ≡ false → said_of k v ≡ said_of k w
any_value_said said.Value v w none = absurd (let bad : true ≡ false = none in cc)
any_value_said said.Absent v w none = refl
any_value_said said.Done v w none = refl
any_value_said said.DoneWithFormer v w none = absurd (let bad : true ≡ false = none in cc)
any_value_said said.Duplicate v w none = refl
any_value_said said.Missing v w none = refl
any_value_said said.NoRoom v w none = refl
any_value_said said.Old v w none = refl
