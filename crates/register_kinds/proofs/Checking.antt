-- Tests that were passed, one behind another.
use Rattle.std.proofs.Common.{◌≡◌, Bool, true, false, Result, Ok, Err, refl}
use Rattle.register_kinds.specs.declared.kind.Violation.{Violation}
use Rattle.register_kinds.specs.Kinds.{check}

-- the test was passed
abbrev pub Passed : Bool → Violation → Type 0
Passed b v = Ok (tt {0}) ≡ check {A = Unit {0}} b v (Ok (tt {0}))

pub three_passed : {A : Type 0} (a b d : Bool) (v w x : Violation) (r : Result A Violation) → Passed a v → Passed b w
    → Passed d x → r ≡ check a v (check b w (check d x r))
three_passed true true true v w x r one two three = refl
three_passed false b d v w x r one two three = absurd (let bad : Ok (tt {0}) ≡ Err v = one in cc)
three_passed true false d v w x r one two three = absurd (let bad : Ok (tt {0}) ≡ Err w = two in cc)
three_passed true true false v w x r one two three = absurd (let bad : Ok (tt {0}) ≡ Err x = three in cc)
