-- What was handed out is read.
use Rattle.std.proofs.Common.{◌≡◌, ℕ, List, [], Option, Some, None, length, reverse, sym, ◌∙◌, subst, arith}
use Rattle.std.proofs.lemmas.List.{append-nil}
use Rattle.tc_log.specs.declared.event.Event.{Event}
use Rattle.tc_log.specs.Reading.{ArePrinted, AreEvents}
use Rattle.tc_core.specs.declared.recovery.SiteNote.{SiteNote}
use Rattle.verifier.specs.Checked.{Checked}
use Rattle.transactions.specs.Legal.{Legal}
use Rattle.transactions.specs.Rows.{AllTakeFew}
use Rattle.transactions.proofs.Rows.{legal_prints}
use Rattle.frame_file.specs.Frame.{frames_from}
use Rattle.frame_file.specs.Reading.{Reads}
use Rattle.frame_file.proofs.Frames.{none_short}
use Rattle.frame_file.proofs.Readings.{reads_one}
use Rattle.log_file.specs.declared.header.Header.{Header}
use Rattle.log_file.specs.Bytes.{Rows, payloads_of, rows_of}
use Rattle.log_file.specs.Reading.{IsBase, IsStart, Says}
use Rattle.log_file.proofs.LawLemmas.{read_as_written}
use Rattle.engine_log.specs.Handing.{AreFrames, HasNoRecords, IsBegun, HasHandedOut, Nothing, Begun}
use Rattle.engine_log.specs.declared.ahead.EngineLog.{EngineLog}

starts : (base : Option Rows) → HasNoRecords base → IsStart base
starts None none = tt
starts (Some rows) none = subst IsBase (sym none) (record { rows = tt; rise = tt; count = omega arith })

-- nothing stands behind whole frames
reads : (h : Header) (base : Option Rows) (l : EngineLog) (file : List ℕ) (events : List Event) (it : AreFrames h base l file events)
    → Reads file (payloads_of h base it.batches)
reads h base l file events it = record {
  rest = [];
  is = it.is ∙ sym (append-nil (frames_from 0 (payloads_of h base it.batches)));
  fit = it.fit;
  ends = none_short (length (payloads_of h base it.batches)) [] (omega arith);
}

same_header : (l : EngineLog) (a b : Header) → l.header ≡ Some a → l.header ≡ Some b → a ≡ b
same_header l a b x y = (let both : Some a ≡ Some b = sym x ∙ y in cc)

none_some : (l : EngineLog) (h : Header) → l.header ≡ None → l.header ≡ Some h → ⊥
none_some l h x y = (let both : None ≡ Some h = sym x ∙ y in cc)

begun_is_read : (l : EngineLog) (h : Header) (ps : List Checked) (log : List Event) (file : List ℕ) (payloads : List (List ℕ))
    (base : Option Rows) (known : List SiteNote) (events : List Event) → AllTakeFew ps → Legal ps log → AreEvents (reverse log)
    → IsBegun h l file (reverse log) → Reads file payloads → Says h payloads base known events → (events ≡ reverse log) × (known ≡ l.notes.items)
begun_is_read l h ps log file payloads base known events few legal are it read says =
    let frames = it.frames in
    let own : payloads ≡ payloads_of h it.base frames.batches =
    reads_one file (payloads_of h it.base frames.batches) payloads (reads h it.base l file (reverse log) frames) read in
    let printed : ArePrinted (reverse log) (rows_of frames.batches) =
    subst (ArePrinted (reverse log)) (sym frames.rows) (legal_prints ps log few legal) in
    let back = read_as_written h it.base base frames.batches known events (reverse log) (starts it.base it.none) frames.are are printed
    (subst (λ (p : List (List ℕ)). Says h p base known events) own says) in
    (back.0, back.1 ∙ sym frames.known)

pub handed_out_is_read : (l : EngineLog) (h : Header) (ps : List Checked) (log : List Event) (file : List ℕ) (payloads : List (List ℕ))
    (base : Option Rows) (known : List SiteNote) (events : List Event) → AllTakeFew ps → Legal ps log → AreEvents (reverse log)
    → HasHandedOut l file (reverse log) → l.header ≡ Some h → Reads file payloads → Says h payloads base known events
    → (events ≡ reverse log) × (known ≡ l.notes.items)
handed_out_is_read l h ps log file payloads base known events few legal are (Nothing none empty nothing) is read says = absurd (none_some l h none is)
handed_out_is_read l h ps log file payloads base known events few legal are (Begun other begun it) is read says =
    begun_is_read l h ps log file payloads base known events few legal are
    (subst (λ (x : Header). IsBegun x l file (reverse log)) (same_header l other h begun is) it) read says
