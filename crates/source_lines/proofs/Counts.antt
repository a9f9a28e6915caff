-- How loops that count go on.
use Rattle.std.proofs.Common.{◌≡◌, ◌∙◌, ℕ, suc, ◌+◌, ◌-◌, ◌<◌, List, ap, sym, arith}
use Rattle.std.specs.Prelude.{false, Option, Some, None}
use Rattle.source_lines.specs.Numbers.{◌>>=◌, leb, behind_lebs}

pub one_left : (n k : ℕ) → k < n → n - k ≡ suc (n - (k + 1))
one_left n k below = omega (arith, below)

pub lebs_on : (n k value : ℕ) (bytes rest : List ℕ) (total : Option (List ℕ)) → k < n → leb false bytes ≡ Some (value, rest)
    → behind_lebs (n - k) bytes ≡ total → behind_lebs (n - (k + 1)) rest ≡ total
lebs_on n k value bytes rest total below read so_far =
    sym (ap (λ (m : ℕ). behind_lebs m bytes) (one_left n k below)
    ∙ ap (λ (r : Option (ℕ × List ℕ)). r >>= λ (_, after). behind_lebs (n - (k + 1)) after) read)
    ∙ so_far

pub lebs_cut : (n k : ℕ) (bytes : List ℕ) (total : Option (List ℕ)) → k < n → leb false bytes ≡ None
    → behind_lebs (n - k) bytes ≡ total → total ≡ None
lebs_cut n k bytes total below read so_far =
    sym so_far ∙ ap (λ (m : ℕ). behind_lebs m bytes) (one_left n k below)
    ∙ ap (λ (r : Option (ℕ × List ℕ)). r >>= λ (_, after). behind_lebs (n - (k + 1)) after) read
