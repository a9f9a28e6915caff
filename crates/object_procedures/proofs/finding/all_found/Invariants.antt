use Rattle.std.proofs.Common.{◌≡◌, ◌++◌, map, length}
use Rattle.object_file.specs.Object.{declared_of}
use Rattle.object_procedures.specs.Each.{kept, refusals}
use Rattle.object_procedures.specs.Finding.{found_of}
use Rattle.object_procedures.proofs.finding.all_found.Given as goal

abbrev pub invariant-procedures : goal.invariant-procedures
invariant-procedures l =
    (l.procedure-iterator.rest.len ≡ length l.procedure-iterator.rest.items)
    × ((l.found.items ++ kept found_of (map declared_of l.procedure-iterator.rest.items) ≡ kept found_of (map declared_of l.fn.procedures.items))
    × (l.refusals.items ++ refusals found_of (map declared_of l.procedure-iterator.rest.items)
    ≡ refusals found_of (map declared_of l.fn.procedures.items)))
