use Rattle.std.proofs.Common.{◌≡◌, ◌+◌, ◌-◌, ◌*◌, ◌<◌, ◌^◌, ◌++◌, List, ap, sym, ◌∙◌, length, drop, map, reverse, rules}
use Rattle.std.specs.List.{flat_map, fold}
use Rattle.tc_log.specs.Printed.{printed}
use Rattle.tc_core.specs.declared.recovery.SiteNote.{SiteNote}
use Rattle.frame_file.specs.Frame.{framed, IsPayload}
use Rattle.log_file.specs.Bytes.{batch_bytes}
use Rattle.log_file.specs.Reading.{with_note}
use Rattle.engine_log.specs.Notes.{known_of}
use Rattle.engine_log.proofs.BatchLemmas.{one_more}
use Rattle.engine_log.proofs.ahead.EngineLog.append.Goals.{else-is_empty-via-then-is_empty+else-is_empty-2, else-is_empty-via-else-is_empty}
use Rattle.engine_log.proofs.ahead.EngineLog.append.Goals as goal

pub returns-clause-one_more : goal.returns-clause-one_more
returns-clause-one_more c =
    let l = c.args.self.now in
    let tc = c.args.tc.now in
    let notes = c.in_ok-notes.notes.items in
    let rows = c.in_ok-rows.rows.items in
    let frame = c.in_ok-frame.frame.items in
    let few : length notes < 2 ^ 64 = search rules in
    let printed_are : rows ≡ flat_map printed (drop l.events (reverse tc.events)) = search rules in
    let size : length rows ≡ 96 * (length tc.events - l.events) = search rules in
    let is : frame ≡ framed l.frames (batch_bytes (record { notes = notes; rows = rows })) = search rules in
    let fits : IsPayload (batch_bytes (record { notes = notes; rows = rows })) = search rules in
    let out : c.extend_from_slice.new.self.items ≡ c.args.out.now.items ++ frame = search rules in
    let frames : c.in-Some.frames ≡ l.frames + 1 = search rules in
    let count : c.max-self.result ≡ l.events + (length tc.events - l.events) = search rules in
    let known : fold with_note l.notes.items notes ≡ map known_of tc.sites =
    ap (λ (k : List SiteNote). fold with_note k notes) (sym c.as_slice.ensures.value) ∙ c.in_ok-notes.ensures.known in
    let noted : c.take_notes.new.known.items ≡ fold with_note l.notes.items notes = search rules in (
      frame,
      out,
      one_more l tc notes rows _ frame c.requires c.in_ok-notes.ensures.numbers few c.in_ok-notes.ensures.there known
          (λ same. c.in_ok-notes.ensures.none (c.as_slice.ensures.value ∙ same)) printed_are size (λ none no_row. elim c.else-is_empty.branch [
            | else-is_empty-via-then-is_empty+else-is_empty-2 w ↦ search rules
            | else-is_empty-via-else-is_empty w ↦ search rules
          ]) is fits frames count noted,
    )
