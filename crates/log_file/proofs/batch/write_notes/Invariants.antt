use Rattle.std.proofs.Common.{◌≡◌, ◌++◌, take}
use Rattle.std.specs.List.{flat_map}
use Rattle.log_file.specs.Bytes.{note_bytes}
use Rattle.log_file.proofs.batch.write_notes.Given as goal

abbrev pub invariant-notes : goal.invariant-notes
invariant-notes l = l.out.items ≡ l.initial.out.items ++ flat_map note_bytes (take l.note-index l.notes)
