-- What is known where a transfer was refused nothing.
use Rattle.std.proofs.Common.{◌≡◌, Bool, true, false, not, Option, Some, None, Result, Ok, Err, refl}
use Rattle.register_kinds.specs.declared.kind.Violation.{Violation}
use Rattle.register_kinds.specs.declared.kinds.Ways.{Ways}
use Rattle.register_kinds.specs.Kinds.{check, refuse}

abbrev pub ok : Ways → Result Ways Violation
ok w = Ok w

abbrev pub err : Violation → Result Ways Violation
err v = Err v

pub check_ok : (b : Bool) (v : Violation) (r : Result Ways Violation) (w : Ways) → check b v r ≡ ok w → (b ≡ true) × (r ≡ ok w)
check_ok true v r w e = (refl, e)
check_ok false v r w e = absurd cc

pub refuse_ok : (o : Option Violation) (r : Result Ways Violation) (w : Ways) → refuse o r ≡ ok w → (o ≡ None) × (r ≡ ok w)
refuse_ok None r w e = (refl, e)
refuse_ok (Some v) r w e = absurd cc

pub refused : (v : Violation) (w : Ways) → err v ≡ ok w → ⊥
refused v w e = cc

pub ok_is : (v w : Ways) → ok v ≡ ok w → v ≡ w
ok_is v w e = cc

pub not_true : (b : Bool) → not b ≡ true → b ≡ false
not_true true e = absurd cc
not_true false e = refl
