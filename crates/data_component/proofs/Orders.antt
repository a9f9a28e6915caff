-- Records and numbers in order.
use Rattle.std.proofs.Common.{arith, ◌≡◌, ℕ, nat_lt, Bool, true, false, refl, sym}
use Rattle.std.specs.Prelude.{◌==◌}
use Rattle.std.proofs.lemmas.Bool.{eqb-true, eq-eqb}
use Rattle.std.proofs.lemmas.Bool.Decides.{nat_tests}
use Rattle.access_slots.specs.Locks.{record_eq, record_less}
use Rattle.access_slots.proofs.Records.{eq_is, eq_same, eq_turned, less_not_eq, less_trans, less_else}
use Rattle.data_component.proofs.Finding.{IsOrder}

pub records : IsOrder record_eq record_less
records = record { same = eq_is; itself = eq_same; apart = less_not_eq; turned = eq_turned; trans = less_trans; else_above = less_else }

abbrev pub number_eq : ℕ → ℕ → Bool
number_eq a b = a == b

both_ways : (b : Bool) (m n : ℕ) → (m == n) ≡ b → (n == m) ≡ b
both_ways true m n is = grind (arith, nat_tests)
both_ways false m n is = grind (arith, nat_tests)

pub numbers : IsOrder number_eq nat_lt
numbers = record {
  same = λ a b is. eqb-true a b is;
  itself = λ a. eq-eqb a a refl;
  apart = λ a b is. grind (arith, nat_tests);
  turned = λ a b. sym (both_ways (a == b) a b refl);
  trans = λ a b d is then_is. grind (arith, nat_tests);
  else_above = λ a b is other. grind (arith, nat_tests);
}
