-- Numbers in bytes, the lowest byte first.
use Rattle.std.proofs.Common.{◌≡◌, ℕ, ◌<◌, ◌^◌, List, [], ◌∷◌, ◌++◌, arith}
use Rattle.std.specs.Int.{w16, w64, from_le_bytes}
use Rattle.byteorder.specs.Endian.{little_number}
use Rattle.tc_log.specs.Reading.{AreNumbers}

pub short_is : (bytes : List ℕ) → little_number 2 bytes ≡ from_le_bytes w16 bytes
short_is bytes = omega arith

pub long_is : (bytes : List ℕ) → little_number 8 bytes ≡ from_le_bytes w64 bytes
long_is bytes = omega arith

pub numbers_push : (numbers : List ℕ) (n : ℕ) → AreNumbers numbers → n < 2 ^ 64 → AreNumbers (numbers ++ n ∷ [])
numbers_push [] n are small = (small, tt)
numbers_push (x ∷ numbers) n are small = (are.0, numbers_push numbers n are.1 small)
