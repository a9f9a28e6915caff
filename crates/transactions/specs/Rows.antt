-- Which logs are printed with a row of 96 bytes for each event.
use Rattle.std.specs.Prelude.{◌≡◌, ℕ, ◌≤◌, List, Some, slice_get}
use Rattle.verifier.specs.Checked.{Checked}

-- each procedure takes at most as many arguments as a row has room for
abbrev pub AllTakeFew : List Checked → Type 0
AllTakeFew ps = (p : ℕ) (q : Checked) → slice_get ps p ≡ Some q → q.decl.args ≤ 8
