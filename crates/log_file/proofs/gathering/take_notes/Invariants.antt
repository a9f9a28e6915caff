use Rattle.std.proofs.Common.{◌≡◌, length, take}
use Rattle.std.specs.List.{fold}
use Rattle.log_file.specs.Reading.{with_note}
use Rattle.log_file.proofs.gathering.take_notes.Given as goal

abbrev pub invariant-notes : goal.invariant-notes
invariant-notes l = record {
  so_far : l.known.items ≡ fold with_note l.initial.known.items (take l.note-index l.notes);
  len : length l.known.items ≡ length l.initial.known.items;
}
