use Rattle.std.proofs.Common.{◌≡◌, ◌++◌, map, drop}
use Rattle.object_file.specs.Gathering.{kept, faults}
use Rattle.object_file.specs.Object.{named, declared_of, procedure_said, procedures_kept, procedure_faults}
use Rattle.object_file.proofs.procedures.procedures_of.Given as goal

abbrev pub invariant-sections : goal.invariant-sections
invariant-sections l =
    (map declared_of l.procedures.items ++ kept (λ _ s. procedure_said (map named l.sections) s) l.section-index (drop l.section-index (map named l.sections))
    ≡ procedures_kept (map named l.sections))
    × (l.faults.items ++ faults (λ _ s. procedure_said (map named l.sections) s) l.section-index (drop l.section-index (map named l.sections))
    ≡ procedure_faults (map named l.sections))
