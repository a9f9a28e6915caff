-- The first thing that is wrong with code.
use Rattle.std.specs.Prelude.{◌≡◌, ℕ, zero, suc, List, length, Option, Some, None}
use Rattle.access_slots.specs.Declaration.{Declaration}
use Rattle.bpf_encoding.specs.declared.insn.Place.{Place}
use Rattle.register_kinds.specs.declared.kind.Violation.{Violation}
use Rattle.register_kinds.specs.Arriving.{violation_at}
use Rattle.verifier.specs.Flow.{flow_at}
use Rattle.verifier.specs.declared.verify.VerifyFault.{VerifyFault}
use Rattle.verifier.specs.declared.verify.VerifyFault.TheVariants.{At, Memory}

abbrev pub or_at : ℕ → Option Violation → Option (ℕ × Violation) → Option (ℕ × Violation)
or_at at None later = later
or_at at (Some v) later = Some (at, v)

-- the first of the n slots from this one on at which something is wrong
abbrev pub first_from : (ℕ → Option Violation) → ℕ → ℕ → Option (ℕ × Violation)
first_from wrong at zero = None
first_from wrong at (suc n) = or_at at (wrong at) (first_from wrong (suc at) n)

-- the first pass: where jumps lead, and whether the code is left
abbrev pub first_flaw : List Place → Option (ℕ × Violation)
first_flaw code = first_from (flow_at code) 0 (length code)

-- the second pass: what the kinds at reached slots forbid
abbrev pub first_violation : Declaration → List Place → Option (ℕ × Violation)
first_violation decl code = first_from (violation_at decl code) 0 (length code)

abbrev pub or_first : Option (ℕ × Violation) → Option (ℕ × Violation) → Option (ℕ × Violation)
or_first None later = later
or_first (Some p) later = Some p

abbrev pub verdict : Declaration → List Place → Option (ℕ × Violation)
verdict decl code = or_first (first_flaw code) (first_violation decl code)

-- want of memory comes after the first pass alone
abbrev pub IsVerdict : Declaration → List Place → VerifyFault → Type 0
IsVerdict decl code (At slot v) = verdict decl code ≡ Some (slot, v)
IsVerdict decl code Memory = first_flaw code ≡ None
