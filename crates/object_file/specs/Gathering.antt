-- What is read in turn, up to the first fault.
use Rattle.std.specs.Prelude.{◌≡◌, ℕ, ◌+◌, List, [], ◌∷◌, ◌++◌, Option, Some, None, Result, Ok, Err}
use Rattle.std.specs.Option.{option_map}
use Rattle.object_file.specs.declared.fault.ObjectFault.{ObjectFault}
use Rattle.object_file.specs.declared.fault.ReadError.{ReadError}
use Rattle.object_file.specs.declared.fault.ReadError.TheVariants.{Fault, Memory}

abbrev pub and_then : {A B : Type 0} → Result A ObjectFault → (A → Result B ObjectFault) → Result B ObjectFault
and_then (Ok a) f = f a
and_then (Err fault) f = Err fault

abbrev pub or_fault : {A : Type 0} → ObjectFault → Option A → Result A ObjectFault
or_fault fault None = Err fault
or_fault fault (Some a) = Ok a

abbrev pub listed : {A : Type 0} → Option A → List A
listed None = []
listed (Some x) = x ∷ []

-- what each of the list is or isn't, numbered from this number on
abbrev pub gathered : {A B : Type 0} → (ℕ → A → Result (Option B) ObjectFault) → ℕ → List A → Result (List B) ObjectFault
gathered said number [] = Ok []
gathered said number (x ∷ xs) = and_then (said number x) (λ y. and_then (gathered said (number + 1) xs) (λ ys. Ok (listed y ++ ys)))

-- the same of what is seen so
abbrev pub viewed : {A B : Type 0} → (A → B) → Result (Option A) ObjectFault → Result (Option B) ObjectFault
viewed view (Ok found) = Ok (option_map view found)
viewed view (Err fault) = Err fault

abbrev pub there : {A : Type 0} → Result (Option A) ObjectFault → List A
there (Ok found) = listed found
there (Err fault) = []

abbrev pub fault_there : {A : Type 0} → Result A ObjectFault → List ObjectFault
fault_there (Ok found) = []
fault_there (Err fault) = fault ∷ []

-- those of the list that are something, and the faults of the others, numbered from this number on
abbrev pub kept : {A B : Type 0} → (ℕ → A → Result (Option B) ObjectFault) → ℕ → List A → List B
kept said number [] = []
kept said number (x ∷ xs) = there (said number x) ++ kept said (number + 1) xs

abbrev pub faults : {A B : Type 0} → (ℕ → A → Result (Option B) ObjectFault) → ℕ → List A → List ObjectFault
faults said number [] = []
faults said number (x ∷ xs) = fault_there (said number x) ++ faults said (number + 1) xs

-- the fault of what is said, want of memory aside
abbrev pub IsStop : {A : Type 0} → Result A ObjectFault → ReadError → Type 0
IsStop said (Fault fault) = said ≡ Err fault
IsStop said Memory = Unit {0}

-- what was read is what is said, or its fault, want of memory aside
abbrev pub Gives : {A : Type 0} → Result A ObjectFault → Result A ReadError → Type 0
Gives said (Ok a) = said ≡ Ok a
Gives said (Err e) = IsStop said e
