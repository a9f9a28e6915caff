-- Why a procedure isn't loaded.
use Rattle.std.specs.Prelude.{◌≡◌, ℕ, List, Option, Some, None}
use Rattle.access_slots.specs.declared.slot.Slot.{Slot}
use Rattle.tc_core.specs.declared.procs.LoadRefusal.{LoadRefusal}
use Rattle.tc_core.specs.declared.procs.LoadRefusal.TheVariants.{NameTaken, DcUnknown, Memory}
use Rattle.tc_core.specs.Loaded.{number_of, unknown_dc}

abbrev pub slots_refusal : Option ℕ → Option LoadRefusal
slots_refusal None = None
slots_refusal (Some slot) = Some (DcUnknown slot)

abbrev pub name_refusal : Option ℕ → Option ℕ → Option LoadRefusal
name_refusal (Some number) slot = Some NameTaken
name_refusal None slot = slots_refusal slot

-- the name is taken, or else a slot names a data component that isn't there
abbrev pub load_refusal : ℕ → List (List ℕ) → List ℕ → List Slot → Option LoadRefusal
load_refusal dcs names name slots = name_refusal (number_of name names) (unknown_dc dcs slots)

-- the first refusal that there is, and want of memory only where there is none
abbrev pub IsFirstRefusal : Option LoadRefusal → LoadRefusal → Type 0
IsFirstRefusal None why = why ≡ Memory
IsFirstRefusal (Some refusal) why = why ≡ refusal
