-- What was read of the words.
use Rattle.std.specs.Prelude.{◌≡◌, ℕ, false, List, [], Option, Some, Result, Ok, Err, codes, slice_get, unwrap_or}
use Rattle.std.specs.Global.{Vec}
use Rattle.clap.specs.Words.{Text, Row, all_of, first_of, kind_of, subcommand_of}
use Rattle.clap.specs.declared.error.kind.ErrorKind.TheVariants.{OutOfMemory}
use Rattle.command_line.specs.Said.{SaysNumber, procd_app, shows}
use Rattle.command_line.specs.Numbers.{SaysDigits, id_of}
use Rattle.command_line.specs.declared.numbers.NoNumber.{NoNumber}
use Rattle.command_line.specs.declared.numbers.NoNumber.TheVariants.{Argument, Value}
use Rattle.command_line.specs.Task.{Wish, wish_of}
use Rattle.command_line.specs.declared.words.Task.{Task}
use Rattle.command_line.specs.declared.words.Wanted.{Wanted}
use Rattle.command_line.specs.declared.words.WordFault.{WordFault}
use Rattle.command_line.specs.declared.words.WordFault.TheVariants.{Clap, Memory, NotNumber}

-- these numbers, or want of memory
abbrev pub IsNumbersOrNoMemory : List ℕ → Result (Vec ℕ) WordFault → Type 0
IsNumbersOrNoMemory numbers (Ok v) = v.items ≡ numbers
IsNumbersOrNoMemory numbers (Err Memory) = Unit {0}
IsNumbersOrNoMemory numbers (Err other) = ⊥

-- this wish, or want of memory
abbrev pub IsTaskOrNoMemory : Wish → Result Task WordFault → Type 0
IsTaskOrNoMemory wish (Ok task) = wish_of task ≡ wish
IsTaskOrNoMemory wish (Err Memory) = Unit {0}
IsTaskOrNoMemory wish (Err other) = ⊥

-- this file and wish, or want of memory
abbrev pub WantsOrNoMemory : Text → Wish → Result Wanted WordFault → Type 0
WantsOrNoMemory file wish (Ok w) = (w.file.now ≡ file) × (wish_of w.task ≡ wish)
WantsOrNoMemory file wish (Err (Clap e)) = kind_of e ≡ OutOfMemory
WantsOrNoMemory file wish (Err Memory) = Unit {0}
WantsOrNoMemory file wish (Err other) = ⊥

-- ---- wrong command lines

-- nothing is wanted, and no help is asked for
abbrev pub IsWrongOrNoMemory : Result Wanted WordFault → Type 0
IsWrongOrNoMemory (Ok w) = ⊥
IsWrongOrNoMemory (Err (Clap e)) = shows (kind_of e) ≡ false
IsWrongOrNoMemory (Err other) = Unit {0}

-- one of the words was given for what takes a number, and is none
abbrev pub IsNoArgument : List Text → Text → Type 0
IsNoArgument words given = ((k : ℕ) × (slice_get words k ≡ Some given)) × (¬ SaysNumber given)

abbrev pub IsNoNumber : List Row → NoNumber → Type 0
IsNoNumber rows (Argument given) = IsNoArgument (unwrap_or (all_of (codes "arg") rows) []) given.now
IsNoNumber rows (Value option given) = (first_of (id_of option) rows ≡ Some given.now) × (¬ SaysDigits given.now)

-- a fault that isn't the command line parser's; where a word is no number, these rows have it
abbrev pub IsFaultOf : List Row → WordFault → Type 0
IsFaultOf rows (Clap e) = ⊥
IsFaultOf rows (NotNumber refused) = IsNoNumber rows refused
IsFaultOf rows other = Unit {0}

-- the same of arguments alone
abbrev pub IsFaultOfArguments : List Text → WordFault → Type 0
IsFaultOfArguments texts (NotNumber (Argument given)) = IsNoArgument texts given.now
IsFaultOfArguments texts Memory = Unit {0}
IsFaultOfArguments texts other = ⊥

-- where a word is told to be no number, it was given for one and is none
abbrev pub IsRightly : List Text → WordFault → Type 0
IsRightly words (NotNumber refused) = (name : Text) × ((rows : List Row) × ((subcommand_of procd_app words ≡ Some (name, rows)) × IsNoNumber rows refused))
IsRightly words other = Unit {0}
