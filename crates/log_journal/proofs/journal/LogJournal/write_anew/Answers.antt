use Rattle.std.proofs.Common.{rules, arith, ◌≡◌, true, List, ℕ, Some, [], ◌∷◌, length, reverse, subst}
use Rattle.std.specs.Prelude.{◌%◌}
use Rattle.std.specs.List.{flat_map}
use Rattle.tc_log.specs.Printed.{printed}
use Rattle.frame_file.specs.Reading.{IsSettled}
use Rattle.log_file.specs.Bytes.{payloads_of}
use Rattle.log_file.specs.Reading.{IsBase, begins_anew}
use Rattle.log_journal.proofs.Keeping.{of_rows, written_anew}
use Rattle.log_journal.proofs.journal.LogJournal.write_anew.Goals as goal

pub returns-in-Ok-begin_anew-clause-kept : goal.returns-in-Ok-begin_anew-clause-kept
returns-in-Ok-begin_anew-clause-kept g c =
    let seen = g.D.Device.seen in
    let leaves = g.D.Device.may_leave in
    let h = c.args.self.now.header in
    let base = c.args.base.now in
    let events = reverse c.args.log.now.events in
    let rows = c.in-Ok.rows.items in
    let is : IsBase base = search rules in
    let anew : begins_anew events ≡ true = search rules in
    let are : rows ≡ flat_map printed events = c.in-Ok.ensures.bytes in
    let whole : length rows % 96 ≡ 0 = omega (arith, c.in-Ok.ensures.rows) in
    written_anew seen leaves h c.begin_anew.new.self base events rows is anew are whole
    (subst (λ (r : List ℕ). IsSettled seen leaves c.begin_anew.new.self.frames (payloads_of h (Some base) (of_rows r ∷ []))) c.deref.ensures.value
    (c.in-Ok-begin_anew.ensures.acknowledged c.requires))
