-- A procedure's declaration, and what is wrong with one.
use Rattle.std.specs.Prelude.{ℕ, suc, Bool, true, nat_lt, if◌then◌else◌, List, [], ◌∷◌, length, Option, Some, None}
use Rattle.access_slots.specs.declared.slot.Key.{Key}
use Rattle.access_slots.specs.declared.slot.Key.TheVariants.{Arg, Fixed}
use Rattle.access_slots.specs.declared.slot.Slot.{Slot}
use Rattle.access_slots.specs.declared.decl.DeclFault.{DeclFault}
use Rattle.access_slots.specs.declared.decl.DeclFault.TheVariants.{TooManyArgs, TooManySlots, NoSuchArg}

-- how many arguments a call takes, and its access slots
pub record Declaration : Type 0 where
  pub args : ℕ
  pub slots : List Slot

abbrev pub names_argument : ℕ → Key → Bool
names_argument args (Arg argument) = nat_lt argument args
names_argument args (Fixed key) = true

-- the first slot, counted from this place on, whose key is an argument that there isn't
abbrev pub first_bad : ℕ → ℕ → List Slot → Option DeclFault
first_bad args place [] = None
first_bad args place (slot ∷ slots) = if names_argument args slot.key then first_bad args (suc place) slots else Some (NoSuchArg place)

abbrev pub decl_fault : ℕ → List Slot → Option DeclFault
decl_fault args slots =
    if nat_lt 8 args then Some TooManyArgs else
    if nat_lt 16 (length slots) then Some TooManySlots else first_bad args 0 slots
