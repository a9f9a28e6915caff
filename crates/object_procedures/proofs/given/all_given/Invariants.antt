use Rattle.std.proofs.Common.{◌≡◌, length}
use Rattle.std.specs.Option.{option_map}
use Rattle.object_file.specs.LineSections.{line_bytes}
use Rattle.object_procedures.specs.Each.{each}
use Rattle.object_procedures.specs.Given.{given_of, all_given}
use Rattle.object_procedures.proofs.Each.{behind}
use Rattle.object_procedures.proofs.given.all_given.Given as goal

abbrev pub invariant-found : goal.invariant-found
invariant-found l =
    (l.one-iterator.rest.len ≡ length l.one-iterator.rest.items)
    × (all_given (option_map line_bytes l.lines) l.fn.found.items
    ≡ behind l.given.items (each (given_of (option_map line_bytes l.lines)) l.one-iterator.rest.items))
