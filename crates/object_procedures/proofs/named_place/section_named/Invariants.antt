use Rattle.std.proofs.Common.{◌≡◌, drop}
use Rattle.object_procedures.specs.NamedPlaces.{section_named}
use Rattle.object_procedures.proofs.named_place.section_named.Given as goal

abbrev pub invariant-procedures : goal.invariant-procedures
invariant-procedures l = section_named l.name (drop l.procedure-index l.found) ≡ section_named l.name l.found
