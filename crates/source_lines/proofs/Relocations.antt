-- How the loop over relocations goes on.
use Rattle.std.proofs.Common.{◌≡◌, ◌∙◌, ℕ, zero, suc, ◌+◌, ◌-◌, ◌<◌, List, length, drop, ap, sym}
use Rattle.std.specs.Prelude.{Bool, true, false, nat_lt, if◌then◌else◌}
use Rattle.object_file.specs.Elf.{long_at}
use Rattle.source_lines.specs.Machine.{relocations_from}
use Rattle.source_lines.proofs.Counts.{one_left}

pub relocations_on : (n k place : ℕ) (bytes rest total : List ℕ) → k < n → nat_lt (length bytes) 16 ≡ false → nat_lt (long_at 0 bytes) place ≡ true
    → rest ≡ drop 16 bytes → relocations_from (n - k) place bytes ≡ total → relocations_from (n - (k + 1)) place rest ≡ total
relocations_on n k place bytes rest total below whole before left so_far =
    ap (relocations_from (n - (k + 1)) place) left
    ∙ sym (ap (λ (m : ℕ). relocations_from m place bytes) (one_left n k below)
    ∙ ap (λ (b : Bool). if b then bytes else if nat_lt (long_at 0 bytes) place then relocations_from (n - (k + 1)) place (drop 16 bytes) else bytes) whole
    ∙ ap (λ (b : Bool). if b then relocations_from (n - (k + 1)) place (drop 16 bytes) else bytes) before)
    ∙ so_far

pub relocations_cut : (n place : ℕ) (bytes total : List ℕ) → nat_lt (length bytes) 16 ≡ true
    → relocations_from n place bytes ≡ total → bytes ≡ total
relocations_cut zero place bytes total cut so_far = so_far
relocations_cut (suc n) place bytes total cut so_far =
    sym (ap (λ (b : Bool). if b then bytes else if nat_lt (long_at 0 bytes) place then relocations_from n place (drop 16 bytes) else bytes) cut) ∙ so_far

pub relocations_there : (n place : ℕ) (bytes total : List ℕ) → nat_lt (length bytes) 16 ≡ false → nat_lt (long_at 0 bytes) place ≡ false
    → relocations_from n place bytes ≡ total → bytes ≡ total
relocations_there zero place bytes total whole there so_far = so_far
relocations_there (suc n) place bytes total whole there so_far =
    sym (ap (λ (b : Bool). if b then bytes else if nat_lt (long_at 0 bytes) place then relocations_from n place (drop 16 bytes) else bytes) whole
    ∙ ap (λ (b : Bool). if b then relocations_from n place (drop 16 bytes) else bytes) there) ∙ so_far
