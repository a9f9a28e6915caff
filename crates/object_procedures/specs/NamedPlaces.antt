-- What is printed of the line that a slot of a procedure comes from, by the procedure's name.
use Rattle.std.specs.Prelude.{ℕ, List, [], Option, Some, None, Result, Ok, Err, option_map}
use Rattle.std.specs.List.{find}
use Rattle.std.specs.Str.{bytes_eq}
use Rattle.object_file.specs.LineSections.{line_sections_said}
use Rattle.object_procedures.specs.Finding.{found_in}
use Rattle.object_procedures.specs.SourcePlaces.{slot_text}
use Rattle.object_procedures.specs.declared.finding.Found.{Found}
use Rattle.object_procedures.specs.declared.finding.ObjectRefusal.{ObjectRefusal}

abbrev pub section_of : Found → ℕ
section_of f = f.section

-- the section with the code of the first procedure of this name
abbrev pub section_named : List ℕ → List Found → Option ℕ
section_named name found = option_map section_of (find (λ (f : Found). bytes_eq f.name name) found)

abbrev pub place_in : List ℕ → Option ℕ → ℕ → List ℕ
place_in file (Some section) slot = slot_text (line_sections_said file) section slot
place_in file None slot = []

abbrev pub place_by : Result (List Found) ObjectRefusal → List ℕ → List ℕ → ℕ → List ℕ
place_by (Ok found) file name slot = place_in file (section_named name found) slot
place_by (Err why) file name slot = []

-- nothing where the file has no line for it
abbrev pub named_place : List ℕ → List ℕ → ℕ → List ℕ
named_place file name slot = place_by (found_in file) file name slot
