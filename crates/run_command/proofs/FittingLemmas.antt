-- How many calls a part has.
use Rattle.std.proofs.Common.{arith, ◌≡◌, ◌∙◌, ◌+◌, ◌-◌, ◌<◌, ◌≤◌, length, take, get_or, ℕ, zero, suc, List, [], ◌∷◌, Option, Some, None, true, refl, ap, subst}
use Rattle.std.specs.Prelude.{nat_le, sum_by}
use Rattle.std.proofs.lemmas.Bool.Decides.{nat_tests}
use Rattle.std.proofs.lemmas.List.{take-take}
use Rattle.std.proofs.lemmas.List.Sums.{sum_by_more}
use Rattle.data_component.specs.Store.{Store}
use Rattle.scripts.specs.declared.script.Call.{Call}
use Rattle.verifier.specs.Checked.{Checked}
use Rattle.run_log.specs.declared.anew.Renewal.{Renewal}
use Rattle.run_command.specs.Fitting.{most_operations, operations, have_room, IsMeasured, IsMeasuredIf}

none_fits : (n : ℕ) → nat_le 0 n ≡ true
none_fits n = grind (arith, nat_tests)

-- there is room for no operation
pub no_operations : (dcs : List Store) → have_room dcs 0 ≡ true
no_operations [] = refl
no_operations (dc ∷ dcs) = rw (none_fits (dc.ops - length dc.list), no_operations dcs) refl

-- the operations of one call more
pub one_more : (ps : List Checked) (calls : List Call) (k : ℕ) (d : Call) (so_far more all : ℕ) → k < length calls → d ≡ get_or calls k d
    → so_far ≡ operations ps (take k calls) → more ≡ most_operations ps d → all ≡ so_far + more → all ≡ operations ps (take (k + 1) calls)
one_more ps calls k d so_far more all lt is sum most whole =
    let next : sum_by (most_operations ps) (take (k + 1) calls) ≡ sum_by (most_operations ps) (take k calls) + most_operations ps (get_or calls k d) =
    sum_by_more (most_operations ps) calls k d lt in
    let same : most_operations ps d ≡ most_operations ps (get_or calls k d) = ap (most_operations ps) is in
    omega (arith, next, same, sum, most, whole)

-- those of the first so many that fit
pub fit_first : (ps : List Checked) (dcs : List Store) (calls next : List Call) (most count : ℕ) → next ≡ take most calls → count ≤ most
    → have_room dcs (operations ps (take count next)) ≡ true → have_room dcs (operations ps (take count calls)) ≡ true
fit_first ps dcs calls next most count is within fit =
    subst (λ (l : List Call). have_room dcs (operations ps l) ≡ true)
    (ap (λ (l : List Call). take count l) is ∙ take-take count most calls within) fit

-- calls that are measured are so whether the log may begin anew or not
pub if_measured : (over : Option ℕ) (ps : List Checked) (dcs : List Store) (renewal : Renewal) (calls : List Call) → IsMeasured ps dcs renewal calls
    → IsMeasuredIf over ps dcs renewal calls
if_measured None ps dcs renewal calls it = tt
if_measured (Some bytes) ps dcs renewal calls it = it
