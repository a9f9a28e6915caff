-- Numbers in bytes, the lowest byte first.
use Rattle.std.proofs.Common.{◌≡◌, ℕ, List, arith}
use Rattle.std.specs.Int.{w16, w32, w64, from_le_bytes}
use Rattle.byteorder.specs.Endian.{little_number}

pub half_is : (bytes : List ℕ) → little_number 2 bytes ≡ from_le_bytes w16 bytes
half_is bytes = omega arith

pub word_is : (bytes : List ℕ) → little_number 4 bytes ≡ from_le_bytes w32 bytes
word_is bytes = omega arith

pub long_is : (bytes : List ℕ) → little_number 8 bytes ≡ from_le_bytes w64 bytes
long_is bytes = omega arith
