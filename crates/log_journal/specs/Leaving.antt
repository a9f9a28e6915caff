-- A crash that finds nothing being written.
use Rattle.std.specs.Prelude.{◌≡◌, ℕ, List, []}
use Rattle.std.specs.List.{flat_map}
use Rattle.std.proofs.Common.{◌∙◌, refl, subst}
use Rattle.tc_log.specs.declared.event.Event.{Event}
use Rattle.tc_log.specs.Printed.{printed}
use Rattle.frame_file.specs.Reading.{IsBeforeOrAfter}
use Rattle.frame_file.proofs.Torns.{whole}
use Rattle.log_file.specs.declared.file.LogFile.{LogFile}
use Rattle.log_file.specs.declared.header.Header.{Header}
use Rattle.log_file.specs.Bytes.{batch_bytes, payloads_of}
use Rattle.log_journal.specs.Keeping.{HasWritten, IsLeft}

module _ {D : Type 0} (seen : D → List ℕ) (may_leave : D → List ℕ → Type 0) (h : Header) (file : LogFile D) (events more : List Event)
    (was : HasWritten seen may_leave h file events) where
  -- these rows are being written behind those that are there
  pub left_between : (rows left : List ℕ) → rows ≡ flat_map printed more
      → IsBeforeOrAfter (payloads_of h was.base was.batches) (batch_bytes (record { notes = []; rows = rows })) left → IsLeft h events more left
  left_between rows left are it = record {
    base = was.base;
    starts = was.starts;
    behind = was.behind;
    batches = was.batches;
    are = was.are;
    rows = was.rows;
    is = subst (λ (r : List ℕ). IsBeforeOrAfter (payloads_of h was.base was.batches) (batch_bytes (record { notes = []; rows = r })) left) are it;
  }

  -- nothing is
  pub left_now : (left : List ℕ) → may_leave file.frames.device left → IsLeft h events more left
  left_now left now =
      let payload = batch_bytes (record { notes = []; rows = flat_map printed more }) in
      left_between (flat_map printed more) left refl
      (whole (payloads_of h was.base was.batches) payload was.settled.fit left (was.settled.durable left now ∙ was.settled.bytes))
