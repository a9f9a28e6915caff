use Rattle.std.proofs.Common.{◌≡◌, ◌<◌, [], map}
use Rattle.std.specs.List.{All, fold}
use Rattle.log_file.specs.declared.note.Note.{Note}
use Rattle.log_file.specs.Reading.{AreNotes, with_note}
use Rattle.engine_log.specs.Notes.{known_of}
use Rattle.engine_log.proofs.NoteLemmas.{noted_after}
use Rattle.engine_log.proofs.notes.changed.Given as goal

abbrev pub invariant-dcs : goal.invariant-dcs
invariant-dcs l = record {
  so_far : fold with_note l.noted l.notes.items ≡ noted_after l.dc l.tc.sites l.noted;
  numbers : AreNotes l.notes.items;
  there : All (λ (n : Note). n.dc < l.tc.dcs) l.notes.items;
  none : l.noted ≡ map known_of l.tc.sites → l.notes.items ≡ [];
}
