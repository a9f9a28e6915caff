use Rattle.std.proofs.Common.{◌≡◌, ◌+◌, ◌-◌, ◌*◌, length}
use Rattle.object_file.specs.Accesses.{slot_said, slots_said}
use Rattle.object_file.specs.Elf.{rows_in}
use Rattle.object_file.specs.Gathering.{gathered}
use Rattle.object_file.proofs.Gathering.{behind}
use Rattle.object_file.proofs.accesses.slots_in.Given as goal

abbrev pub invariant-entries : goal.invariant-entries
invariant-entries l = record {
  said : slots_said l.section l.count l.entries ≡ behind l.slots.items (gathered (slot_said l.section) l.place (rows_in 16 (l.count - l.place) l.rest));
  left : length l.rest + 16 * l.place ≡ length l.entries;
}
