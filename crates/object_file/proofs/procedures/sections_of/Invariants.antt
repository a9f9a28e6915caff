use Rattle.std.proofs.Common.{◌≡◌, ◌++◌, map, drop}
use Rattle.object_file.specs.Gathering.{kept, faults}
use Rattle.object_file.specs.Object.{named, section_said, sections_kept, section_faults}
use Rattle.object_file.proofs.procedures.sections_of.Given as goal

abbrev pub invariant-headers : goal.invariant-headers
invariant-headers l =
    (map named l.sections.items ++ kept (section_said l.file l.names l.headers) l.number (drop l.number l.headers) ≡ sections_kept l.file l.names l.headers)
    × (l.faults.items ++ faults (section_said l.file l.names l.headers) l.number (drop l.number l.headers) ≡ section_faults l.file l.names l.headers)
