-- The procedures of an object file: NAME is the section "procedure/NAME" with its code, and "accesses/NAME" with its declaration.
use Rattle.std.specs.Prelude.{ℕ, Bool, ◌==◌, ◌&&◌, true, false, not, if◌then◌else◌, List, [], ◌∷◌, ◌++◌, length, take, drop, codes}
use Rattle.std.specs.Prelude.{Option, Some, None, Result, Ok, Err, map}
use Rattle.std.specs.List.{find, list_any}
use Rattle.std.specs.Str.{bytes_eq}
use Rattle.access_slots.specs.Declaration.{Declaration}
use Rattle.object_file.specs.Accesses.{accesses_said}
use Rattle.object_file.specs.Elf.{part_of, string_at, headers_in, table_said, names_said, has_bits, relocates}
use Rattle.object_file.specs.Gathering.{and_then, or_fault, kept, faults}
use Rattle.object_file.specs.declared.elf.Header.{Header}
use Rattle.object_file.specs.declared.fault.ObjectFault.{ObjectFault}
use Rattle.object_file.specs.declared.fault.ObjectFault.TheVariants.{NoName, Outside, Relocated, Twice, NoAccesses, NoProcedures}
use Rattle.object_file.specs.declared.procedures.Contents.{Contents}
use Rattle.object_file.specs.declared.procedures.Kind.{Kind}
use Rattle.object_file.specs.declared.procedures.Kind.TheVariants.{Code, Accesses}
use Rattle.object_file.specs.declared.procedures.Procedure.{Procedure}
use Rattle.object_file.specs.declared.procedures.Section.{Section}

-- ---- sections of procedures

-- a section's number, what it has, of which procedure, and its bytes
pub record Named : Type 0 where
  pub number : ℕ
  pub kind : Kind
  pub name : List ℕ
  pub bytes : List ℕ

abbrev pub named : Section → Named
named s = record { number = s.number; kind = s.kind; name = s.name.now; bytes = s.bytes.now }

abbrev pub begins : List ℕ → List ℕ → Bool
begins word name = bytes_eq (take (length word) name) word

-- what stands behind "procedure/" or "accesses/"
abbrev pub kind_of : List ℕ → Option (Kind × List ℕ)
kind_of name =
    if begins (codes "procedure/") name then Some (Code, drop 10 name) else
    if begins (codes "accesses/") name then Some (Accesses, drop 9 name) else None

-- a section of a procedure has its bytes in the file, and nothing relocates them
abbrev pub kind_said : List ℕ → List Header → ℕ → Header → Option (Kind × List ℕ) → Result (Option Named) ObjectFault
kind_said file headers number h None = Ok None
kind_said file headers number h (Some k) =
    and_then (or_fault (Outside number) (part_of file h.offset h.size)) (λ bytes.
    if list_any (relocates number) headers then Err (Relocated number) else
    Ok (Some (record { number = number; kind = k.0; name = k.1; bytes = bytes })))

-- each section of type SHT_PROGBITS has a name
abbrev pub section_said : List ℕ → List ℕ → List Header → ℕ → Header → Result (Option Named) ObjectFault
section_said file names headers number h =
    if not (has_bits h) then Ok None else
    and_then (or_fault (NoName number) (string_at h.name names)) (λ name. kind_said file headers number h (kind_of name))

-- the sections of procedures that have no fault, and the faults of the others
abbrev pub sections_kept : List ℕ → List ℕ → List Header → List Named
sections_kept file names headers = kept (section_said file names headers) 0 headers

abbrev pub section_faults : List ℕ → List ℕ → List Header → List ObjectFault
section_faults file names headers = faults (section_said file names headers) 0 headers

-- ---- procedures

pub record Declared : Type 0 where
  pub name : List ℕ
  pub code : List ℕ
  pub decl : Declaration
  pub section : ℕ

abbrev pub declared_of : Procedure → Declared
declared_of p = record { name = p.name.now; code = p.code.now; decl = p.decl; section = p.section }

abbrev pub same_kind : Kind → Kind → Bool
same_kind Code Code = true
same_kind Accesses Accesses = true
same_kind _ _ = false

abbrev pub first_of : Kind → List ℕ → List Named → Option Named
first_of kind name sections = find (λ s. same_kind s.kind kind && bytes_eq s.name name) sections

abbrev pub is_numbered : ℕ → Option Named → Bool
is_numbered number None = false
is_numbered number (Some s) = s.number == number

-- the code of a procedure of this name stands in one section; of its accesses the first section counts
abbrev pub code_said : List Named → Named → Result (Option Declared) ObjectFault
code_said sections s =
    if not (is_numbered s.number (first_of Code s.name sections)) then Err (Twice s.number) else
    and_then (or_fault (NoAccesses s.number) (first_of Accesses s.name sections)) (λ a.
    and_then (accesses_said a.number a.bytes) (λ decl.
    Ok (Some (record { name = s.name; code = s.bytes; decl = decl; section = s.number }))))

abbrev pub procedure_said : List Named → Named → Result (Option Declared) ObjectFault
procedure_said sections s = if not (same_kind s.kind Code) then Ok None else code_said sections s

-- the procedures of these sections that have no fault, and the faults of the others
abbrev pub procedures_kept : List Named → List Declared
procedures_kept sections = kept (λ _ s. procedure_said sections s) 0 sections

abbrev pub procedure_faults : List Named → List ObjectFault
procedure_faults sections = faults (λ _ s. procedure_said sections s) 0 sections

-- ---- the file

pub record Said : Type 0 where
  pub procedures : List Declared
  pub faults : List ObjectFault

abbrev pub said_of : Contents → Said
said_of c = record { procedures = map declared_of c.procedures.items; faults = c.faults.items }

-- a file without any procedure has a fault
abbrev pub or_none_there : List Declared → List ObjectFault → List ObjectFault
or_none_there [] [] = NoProcedures ∷ []
or_none_there procedures faults = faults

abbrev pub contents_of : (section_faults : List ObjectFault) → List Named → Said
contents_of section_faults sections = record {
  procedures = procedures_kept sections;
  faults = or_none_there (procedures_kept sections) (section_faults ++ procedure_faults sections);
}

abbrev pub contents_in : List ℕ → List Header → Result Said ObjectFault
contents_in file headers =
    and_then (names_said file headers) (λ names. Ok (contents_of (section_faults file names headers) (sections_kept file names headers)))

-- its procedures that have no fault, in the order of their sections, and the faults of the others: first those of sections, then those of
-- procedures. Of a file whose tables aren't there only that is said
abbrev pub contents_said : List ℕ → Result Said ObjectFault
contents_said file = and_then (table_said file) (λ table. contents_in file (headers_in table))

abbrev pub unless_faulty : List Declared → List ObjectFault → Result (List Declared) ObjectFault
unless_faulty procedures [] = Ok procedures
unless_faulty procedures (fault ∷ more) = Err fault

-- its procedures, or the first fault
abbrev pub object_said : List ℕ → Result (List Declared) ObjectFault
object_said file = and_then (contents_said file) (λ said. unless_faulty said.procedures said.faults)
