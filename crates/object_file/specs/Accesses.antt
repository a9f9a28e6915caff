-- A section of accesses: 16 bytes an entry, little-endian. Two bytes each for data component, table, flags and nothing, and eight for a number.
use Rattle.std.specs.Prelude.{ℕ, ◌-◌, ◌/◌, ◌%◌, Bool, ◌==◌, ◌&&◌, not, nat_lt, nat_le, if◌then◌else◌, List, length, take, drop}
use Rattle.std.specs.Prelude.{Option, Some, None, Result, Ok, Err}
use Rattle.std.specs.Option.{option_map}
use Rattle.access_slots.specs.Declaration.{Declaration, decl_fault}
use Rattle.access_slots.specs.declared.decl.DeclFault.{DeclFault}
use Rattle.access_slots.specs.declared.slot.Key.{Key}
use Rattle.access_slots.specs.declared.slot.Key.TheVariants.{Arg, Fixed}
use Rattle.access_slots.specs.declared.slot.Mode.TheVariants.{Read, Write}
use Rattle.access_slots.specs.declared.slot.Slot.{Slot}
use Rattle.object_file.specs.Elf.{half_at, long_at, rows_in}
use Rattle.object_file.specs.Gathering.{and_then, or_fault, gathered}
use Rattle.object_file.specs.declared.fault.ObjectFault.{ObjectFault}
use Rattle.object_file.specs.declared.fault.ObjectFault.TheVariants.{AccessesSize, NoArguments, NoSlot, Declared}

-- a number of 256 or more is no argument
abbrev pub key_in : Bool → ℕ → Option Key
key_in is_argument number =
    if not is_argument then Some (Fixed number) else if nat_lt number 256 then Some (Arg number) else None

-- flags: 1 to write, 2 where the key is an argument
abbrev pub slot_in : List ℕ → Option Slot
slot_in entry =
    if nat_lt 3 (half_at 4 entry) then None else
    option_map (λ key. record {
      mode = if half_at 4 entry % 2 == 1 then Write else Read;
      dc = half_at 0 entry;
      table = half_at 2 entry;
      key = key;
    }) (key_in (nat_le 2 (half_at 4 entry)) (long_at 8 entry))

-- flags 4: how many arguments there are
abbrev pub arguments_in : List ℕ → Option ℕ
arguments_in entry =
    if not (half_at 4 entry == 4) then None else if nat_lt (long_at 8 entry) 256 then Some (long_at 8 entry) else None

abbrev pub slot_said : ℕ → ℕ → List ℕ → Result (Option Slot) ObjectFault
slot_said section place entry = and_then (or_fault (NoSlot section place) (slot_in entry)) (λ slot. Ok (Some slot))

abbrev pub slots_said : ℕ → ℕ → List ℕ → Result (List Slot) ObjectFault
slots_said section count entries = gathered (slot_said section) 0 (rows_in 16 count entries)

abbrev pub unless_declared : ℕ → Option DeclFault → Declaration → Result Declaration ObjectFault
unless_declared section (Some fault) declared = Err (Declared section fault)
unless_declared section None declared = Ok declared

abbrev pub declared_by : ℕ → ℕ → List Slot → Result Declaration ObjectFault
declared_by section args slots = unless_declared section (decl_fault args slots) (record { args = args; slots = slots })

abbrev pub has_entries : ℕ → Bool
has_entries size = (size % 16 == 0) && (nat_le 1 (size / 16) && nat_le (size / 16) 17)

-- 1 to 17 entries: first how many arguments a call takes, and then the slots in order
abbrev pub accesses_said : ℕ → List ℕ → Result Declaration ObjectFault
accesses_said section bytes =
    if not (has_entries (length bytes)) then Err (AccessesSize section) else
    and_then (or_fault (NoArguments section) (arguments_in (take 16 bytes))) (λ args.
    and_then (slots_said section (length bytes / 16 - 1) (drop 16 bytes)) (declared_by section args))
