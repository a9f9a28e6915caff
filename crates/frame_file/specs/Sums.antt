-- The hash over parts of bytes.
use Rattle.std.specs.Prelude.{◌≡◌, ℕ, ◌-◌, ◌*◌, ◌/◌, ◌%◌, ◌<◌, ◌^◌, List, length, take, drop, get_or}
use Rattle.frame_file.specs.Frame.{hashed}
use Rattle.frame_file.specs.declared.sums.Sums.{Sums}

abbrev pub AreBytes : List ℕ → Type 0
AreBytes bytes = (i : ℕ) → get_or bytes i 0 < 256

-- the bytes from one place to another
abbrev pub part : ℕ → ℕ → List ℕ → List ℕ
part start end bytes = take (end - start) (drop start bytes)

-- the block of this number
abbrev pub block_at : ℕ → List ℕ → List ℕ
block_at k bytes = take 4096 (drop (4096 * k) bytes)

-- what each lowest byte becomes over a block, a block behind another; and the factor by which a block multiplies what is above it
pub record AreSums (bytes : List ℕ) (sums : Sums) : Type 0 where
  pub each : (i : ℕ) → i < length sums.table.items → get_or sums.table.items i 0 ≡ hashed (i % 256) (block_at (i / 256) bytes)
  pub factor : sums.factor ≡ 1099511628211 ^ 4096 % 2 ^ 64
