-- Unsigned decimal numbers, and what it is to be read as a definition says.
use Rattle.std.specs.Prelude.{◌≡◌, ℕ, nat_le, if◌then◌else◌, List, [], ◌∷◌, Result, Ok, Err}
use Rattle.bpf_asm.specs.Numbers.{numeral}
use Rattle.bpf_asm.specs.declared.line.LineFault.{LineFault}
use Rattle.scripts.specs.declared.fault.ScriptFault.{ScriptFault}
use Rattle.scripts.specs.declared.fault.ScriptFault.TheVariants.{BadNumber}
use Rattle.scripts.specs.declared.fault.LineError.{LineError}
use Rattle.scripts.specs.declared.fault.LineError.TheVariants.{Fault, Memory}

abbrev pub and_then : {A B : Type 0} → Result A ScriptFault → (A → Result B ScriptFault) → Result B ScriptFault
and_then (Ok a) f = f a
and_then (Err fault) f = Err fault

abbrev pub or_bad_number : Result ℕ LineFault → Result ℕ ScriptFault
or_bad_number (Ok n) = Ok n
or_bad_number (Err e) = Err BadNumber

-- digits alone, below 2^64
abbrev pub decimal_said : List ℕ → Result ℕ ScriptFault
decimal_said word = or_bad_number (numeral 10 word)

abbrev pub at_most : ℕ → ℕ → Result ℕ ScriptFault
at_most most n = if nat_le n most then Ok n else Err BadNumber

abbrev pub number_to : ℕ → List ℕ → Result ℕ ScriptFault
number_to most word = and_then (decimal_said word) (at_most most)

abbrev pub numbers_said : List (List ℕ) → Result (List ℕ) ScriptFault
numbers_said [] = Ok []
numbers_said (word ∷ words) = and_then (decimal_said word) (λ n. and_then (numbers_said words) (λ ns. Ok (n ∷ ns)))

-- the fault of what is said, want of memory aside
abbrev pub IsStop : {A : Type 0} → Result A ScriptFault → LineError → Type 0
IsStop said (Fault fault) = said ≡ Err fault
IsStop said Memory = Unit {0}

-- what was read is what is said, or its fault, want of memory aside
abbrev pub Gives : {A : Type 0} → Result A ScriptFault → Result A LineError → Type 0
Gives said (Ok a) = said ≡ Ok a
Gives said (Err e) = IsStop said e
