-- Numbers in bytes, the lowest byte first.
use Rattle.std.proofs.Common.{◌≡◌, ℕ, List, arith}
use Rattle.std.specs.Int.{w16, w32, from_le_bytes}
use Rattle.byteorder.specs.Endian.{little_number}

pub offset_is : (bytes : List ℕ) → little_number 2 bytes ≡ from_le_bytes w16 bytes
offset_is bytes = omega arith

pub imm_is : (bytes : List ℕ) → little_number 4 bytes ≡ from_le_bytes w32 bytes
imm_is bytes = omega arith
