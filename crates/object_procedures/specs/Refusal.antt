-- What is printed of an object file that is refused.
use Rattle.std.specs.Prelude.{ℕ, ◌/◌, ◌==◌, if◌then◌else◌, List, [], ◌++◌, length, codes, decimal, Option, Some, None}
use Rattle.access_slots.specs.declared.decl.DeclFault.{DeclFault}
use Rattle.object_file.specs.LineSections.{LineBytes, line_sections_said}
use Rattle.object_file.specs.Referring.{Referred, section_name_said, reference_said}
use Rattle.object_file.specs.declared.fault.ObjectFault.{ObjectFault}
use Rattle.object_file.specs.declared.fault.ObjectFault.TheVariants.{NotElf, NotLittle64, NotRelocatable, NotBpf, EntrySize}
use Rattle.object_file.specs.declared.fault.ObjectFault.TheVariants.{TooManySections, NoTable, NoNames, NoName, Outside, Relocated}
use Rattle.object_file.specs.declared.fault.ObjectFault.TheVariants.{Twice, NoAccesses, AccessesSize, NoArguments, NoSlot, Declared, NoProcedures}
use Rattle.object_procedures.specs.declared.finding.ObjectRefusal.{ObjectRefusal}
use Rattle.object_procedures.specs.declared.finding.ObjectRefusal.TheVariants.{Unread, BadName}
use Rattle.object_procedures.specs.SourcePlaces.{file_text, slot_text}
use Rattle.report_texts.specs.FaultNames.{decl_fault_name}

abbrev pub entry_fault : ℕ → ℕ → List ℕ
entry_fault section entry = codes "NoSlot section " ++ (decimal section ++ (codes " entry " ++ decimal entry))

abbrev pub declared_fault : ℕ → DeclFault → List ℕ
declared_fault section fault = codes "Declared section " ++ (decimal section ++ (codes " " ++ decl_fault_name fault))

abbrev pub object_fault_name : ObjectFault → List ℕ
object_fault_name NotElf = codes "NotElf"
object_fault_name NotLittle64 = codes "NotLittle64"
object_fault_name (NotRelocatable kind) = codes "NotRelocatable " ++ decimal kind
object_fault_name (NotBpf machine) = codes "NotBpf " ++ decimal machine
object_fault_name (EntrySize size) = codes "EntrySize " ++ decimal size
object_fault_name (TooManySections count) = codes "TooManySections " ++ decimal count
object_fault_name NoTable = codes "NoTable"
object_fault_name NoNames = codes "NoNames"
object_fault_name (NoName section) = codes "NoName section " ++ decimal section
object_fault_name (Outside section) = codes "Outside section " ++ decimal section
object_fault_name (Relocated section) = codes "Relocated section " ++ decimal section
object_fault_name (Twice section) = codes "Twice section " ++ decimal section
object_fault_name (NoAccesses section) = codes "NoAccesses section " ++ decimal section
object_fault_name (AccessesSize section) = codes "AccessesSize section " ++ decimal section
object_fault_name (NoArguments section) = codes "NoArguments section " ++ decimal section
object_fault_name (NoSlot section entry) = entry_fault section entry
object_fault_name (Declared section fault) = declared_fault section fault
object_fault_name NoProcedures = codes "NoProcedures"

abbrev pub refusal_name : ObjectRefusal → List ℕ
refusal_name (Unread fault) = object_fault_name fault
refusal_name (BadName section) = codes "BadName section " ++ decimal section

-- ---- the section that is meant

abbrev pub fault_section : ObjectFault → Option ℕ
fault_section (NoName section) = Some section
fault_section (Outside section) = Some section
fault_section (Relocated section) = Some section
fault_section (Twice section) = Some section
fault_section (NoAccesses section) = Some section
fault_section (AccessesSize section) = Some section
fault_section (NoArguments section) = Some section
fault_section (NoSlot section entry) = Some section
fault_section (Declared section fault) = Some section
fault_section _ = None

abbrev pub refused_section : ObjectRefusal → Option ℕ
refused_section (Unread fault) = fault_section fault
refused_section (BadName section) = Some section

-- a name behind these bytes, where there is one
abbrev pub name_text : (before : List ℕ) → Option (List ℕ) → List ℕ
name_text before None = []
name_text before (Some name) = if length name == 0 then [] else before ++ file_text name

abbrev pub section_text : List ℕ → Option ℕ → List ℕ
section_text file None = []
section_text file (Some section) = name_text (codes " ") (section_name_said file section)

-- what the first place that is to be relocated refers to, and the line of the slot there, where the file says them; a slot has 8 bytes
abbrev pub reference_by : Option LineBytes → ℕ → Option Referred → List ℕ
reference_by lines section None = []
reference_by lines section (Some r) = name_text (codes " symbol ") r.symbol ++ slot_text lines section (r.place / 8)

abbrev pub reference_text : List ℕ → ObjectRefusal → List ℕ
reference_text file (Unread (Relocated section)) = reference_by (line_sections_said file) section (reference_said file section)
reference_text file _ = []

-- ---- the line

abbrev pub object_refusal : List ℕ → ObjectRefusal → List ℕ
object_refusal file why =
    codes "refused object " ++ (refusal_name why ++ (section_text file (refused_section why) ++ (reference_text file why ++ codes "\n")))
