use Rattle.std.proofs.Common.{◌≡◌, map, drop}
use Rattle.object_file.specs.Object.{named, first_of}
use Rattle.object_file.proofs.procedures.first_of.Given as goal

abbrev pub invariant-sections : goal.invariant-sections
invariant-sections l = first_of l.kind l.name (map named (drop l.section-index l.sections)) ≡ first_of l.kind l.name (map named l.sections)
