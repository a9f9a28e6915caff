-- The procedures that an object file has for scripts.
use Rattle.std.specs.Prelude.{◌≡◌, ℕ, if◌then◌else◌, List, [], ◌∷◌, ◌++◌, map, Option, Some, None, Result, Ok, Err}
use Rattle.bpf_encoding.specs.Named.{code_named}
use Rattle.bpf_encoding.specs.Spells.{fault_in}
use Rattle.bpf_encoding.specs.declared.decode.DecodeFault.{DecodeFault}
use Rattle.bpf_encoding.specs.declared.insn.Place.{Place}
use Rattle.object_file.specs.Object.{Declared, Said, contents_said}
use Rattle.object_file.specs.declared.fault.ObjectFault.{ObjectFault}
use Rattle.object_procedures.specs.Each.{and_then, kept, refusals}
use Rattle.object_procedures.specs.declared.finding.Findings.{Findings}
use Rattle.object_procedures.specs.declared.finding.Found.{Found}
use Rattle.object_procedures.specs.declared.finding.ObjectRefusal.{ObjectRefusal}
use Rattle.object_procedures.specs.declared.finding.ObjectRefusal.TheVariants.{Unread, BadName}
use Rattle.object_procedures.specs.declared.finding.FindError.{FindError}
use Rattle.object_procedures.specs.declared.finding.FindError.TheVariants.{Refused, Memory}
use Rattle.scripts.specs.Names.{is_name}

abbrev pub code_by : Option DecodeFault → List ℕ → Result (List Place) DecodeFault
code_by (Some fault) bytes = Err fault
code_by None bytes = Ok (code_named bytes)

-- the code that bytes spell, or their first fault
abbrev pub code_said : List ℕ → Result (List Place) DecodeFault
code_said bytes = code_by (fault_in bytes) bytes

-- its name is one of a script's procedure
abbrev pub found_of : Declared → Result Found ObjectRefusal
found_of p =
    if is_name p.name then Ok (record { name = p.name; decl = p.decl; code = code_said p.code; section = p.section }) else
    Err (BadName p.section)

pub record AllFound : Type 0 where
  pub found : List Found
  pub refusals : List ObjectRefusal

abbrev pub all_of : Findings → AllFound
all_of f = record { found = f.found.items; refusals = f.refusals.items }

-- those of a file's procedures that have such a name, and why the others aren't taken: first what is wrong with the file
abbrev pub all_found : Said → AllFound
all_found s = record { found = kept found_of s.procedures; refusals = map Unread s.faults ++ refusals found_of s.procedures }

abbrev pub findings_by : Result Said ObjectFault → Result AllFound ObjectRefusal
findings_by (Ok said) = Ok (all_found said)
findings_by (Err fault) = Err (Unread fault)

-- what of the file isn't refused, in the order of its sections, and what is; of a file whose tables aren't there only that
abbrev pub findings_in : List ℕ → Result AllFound ObjectRefusal
findings_in file = findings_by (contents_said file)

abbrev pub unless_refused : List Found → List ObjectRefusal → Result (List Found) ObjectRefusal
unless_refused found [] = Ok found
unless_refused found (why ∷ more) = Err why

-- all that the file says, in the order of its sections, or the first refusal
abbrev pub found_in : List ℕ → Result (List Found) ObjectRefusal
found_in file = and_then (findings_in file) (λ all. unless_refused all.found all.refusals)

-- the refusal that is said, want of memory aside
abbrev pub IsStop : {A : Type 0} → Result A ObjectRefusal → FindError → Type 0
IsStop said (Refused why) = said ≡ Err why
IsStop said Memory = Unit {0}
