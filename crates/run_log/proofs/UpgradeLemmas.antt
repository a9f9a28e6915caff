-- A log that was found, under another header.
use Rattle.std.proofs.Common.{◌≡◌, ◌∙◌, ◌++◌, ℕ, List, [], Some, Option, length, reverse, arith, refl, sym, ap, subst}
use Rattle.std.proofs.lemmas.List.{append-nil, length-append}
use Rattle.disk_file.specs.Disk.{disk_bytes, left_of}
use Rattle.frame_file.specs.Frame.{frames_from, framed, NoFrame}
use Rattle.frame_file.specs.Reading.{Reads}
use Rattle.frame_file.proofs.Frames.{length-framed}
use Rattle.log_file.specs.declared.header.Header.{Header}
use Rattle.log_file.specs.Bytes.{Rows, payloads_of, rows_of, notes_of}
use Rattle.log_file.specs.Reading.{IsStart, IsBehind, Says, last_known}
use Rattle.log_journal.specs.Keeping.{IsLogOf, Read}
use Rattle.tc_log.specs.declared.event.Event.{Event}
use Rattle.tc_log.specs.Reading.{ArePrinted, AreOnlyOnes}
use Rattle.run_ground.specs.Kept.{FileJournal}
use Rattle.run_log.specs.Anew.{HasWrittenAnew}

-- behind the last byte stands no frame
none_behind : (n : ℕ) → NoFrame n []
none_behind n payload after fits is =
    omega (arith, ap length is, length-append (framed n payload) after, length-framed n payload)

-- what was written says these events, which no others' rows are, as another file's rows show
pub says_written : (h : Header) (base : Rows) (log : List Event) (j : FileJournal) (rows : List ℕ) → HasWrittenAnew h base log j
    → ArePrinted (reverse log) rows → AreOnlyOnes (reverse log) rows → IsLogOf h (disk_bytes j.file.frames.device) (Some base) (reverse log)
says_written h base log j rows written printed only =
    let w = written.1.0 in
    let is_base = written.1.1 in
    let payloads = payloads_of h w.base w.batches in
    let same : rows ≡ rows_of w.batches = sym printed.prints ∙ sym w.rows in
    let reads : Reads (disk_bytes j.file.frames.device) payloads = record {
      rest = [];
      is = w.settled.bytes ∙ sym (append-nil (frames_from 0 payloads));
      fit = w.settled.fit;
      ends = none_behind (length payloads);
    } in
    let says : Says h payloads (Some base) (last_known h.dcs (notes_of w.batches)) (reverse log) = record {
      batches = w.batches;
      is = ap (λ (b : Option Rows). payloads_of h b w.batches) is_base;
      starts = subst IsStart is_base w.starts;
      behind = subst (λ (b : Option Rows). IsBehind b (reverse log)) is_base w.behind;
      are = w.are;
      known_is = refl;
      printed = subst (ArePrinted (reverse log)) same printed;
      only = subst (AreOnlyOnes (reverse log)) same only;
    } in
    Read payloads (last_known h.dcs (notes_of w.batches)) reads says
