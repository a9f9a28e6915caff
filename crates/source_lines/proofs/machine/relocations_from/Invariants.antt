use Rattle.std.proofs.Common.{◌≡◌, ◌-◌, ◌/◌, length}
use Rattle.source_lines.specs.Machine.{relocations_from}
use Rattle.source_lines.proofs.machine.relocations_from.Given as goal

abbrev pub invariant-relocations : goal.invariant-relocations
invariant-relocations l =
    relocations_from (length l.relocations / 16 - l.counter) l.place l.rest ≡ relocations_from (length l.relocations / 16) l.place l.relocations
