use Rattle.std.proofs.Common.{◌≡◌, ◌-◌, ◌+◌, ◌*◌, ◌++◌, length}
use Rattle.log_file.specs.Reading.{AreNotes}
use Rattle.log_file.specs.Joining.Fields.{notes_in}
use Rattle.log_file.proofs.batch.notes_in.Given as goal

abbrev pub invariant-notes : goal.invariant-notes
invariant-notes l = record {
  so_far : l.notes.items ++ notes_in (l.count - l.counter) l.rest ≡ notes_in l.count l.bytes;
  numbers : AreNotes l.notes.items;
  left : length l.rest + 32 * l.counter ≡ length l.bytes;
}
