-- How many bytes there are.
use Rattle.std.proofs.Common.{arith, ◌≡◌, ℕ, ◌-◌, ◌*◌, ◌≤◌, List, [], ◌∷◌, length, refl}
use Rattle.std.specs.List.{flat_map}
use Rattle.std.specs.Int.{w64, to_le_bytes}
use Rattle.std.proofs.lemmas.List.{length-append, length-replicate}
use Rattle.tc_log.specs.Printed.{Cells, cells_bytes, head_bytes, number_bytes, zeros, args_bytes}

pub whole : (c : Cells) → length c.body ≡ 64 → length (cells_bytes c) ≡ 96
unfolding head_bytes number_bytes
whole c long = omega (arith, long)

pub numbers_long : (args : List ℕ) → length (flat_map (to_le_bytes w64) args) ≡ 8 * length args
numbers_long [] = refl
numbers_long (n ∷ args) = omega (arith, numbers_long args)

pub args_long : (args : List ℕ) → length args ≤ 8 → length (args_bytes args) ≡ 64
args_long args few = omega (arith, few, numbers_long args, length-append (flat_map (to_le_bytes w64) args) (zeros (64 - 8 * length args)), length-replicate {A = ℕ} (64 - 8 * length args) 0)
