use Rattle.std.proofs.Common.{rules, sym, subst}
use Rattle.log_file.specs.Reading.{AreNotes}
use Rattle.log_file.proofs.BackLemmas.{notes_further, notes_push}
use Rattle.log_file.proofs.batch.notes_in.Goals as goal

pub notes-preserved : goal.notes-preserved
notes-preserved c = record {
  so_far = notes_further c.notes.notes.items c.push.new.self.items c.args.count c.notes.counter c.note_in.result
      c.notes.rest.now c.split_at.result.0.now c.split_at.result.1.now _ (search rules) c.notes.invariant.so_far
      (search rules) c.note_in.ensures.value (search rules) (search rules);
  numbers = subst AreNotes (sym (search rules)) (notes_push c.notes.notes.items c.note_in.result c.notes.invariant.numbers c.note_in.ensures.numbers);
  left = search rules;
}
