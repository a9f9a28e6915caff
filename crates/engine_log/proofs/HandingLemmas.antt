-- The first frame of a file, and one batch more.
use Rattle.std.proofs.Common.{◌≡◌, ℕ, ◌+◌, List, [], ◌∷◌, ◌++◌, length, replicate, Option, refl, sym, ◌∙◌, ap, ap₂, subst, arith, length-append}
use Rattle.std.specs.List.{flat_map, fold}
use Rattle.std.proofs.lemmas.List.{append-nil, flat_map_more, length-replicate}
use Rattle.std.proofs.lemmas.List.Sums.{fold-append}
use Rattle.std.proofs.lemmas.Grind.{flat_map-append}
use Rattle.std.proofs.lemmas.List.{length-set}
use Rattle.tc_log.specs.declared.event.Event.{Event}
use Rattle.tc_log.specs.Printed.{printed}
use Rattle.tc_core.specs.declared.recovery.SiteNote.{SiteNote}
use Rattle.tc_core.specs.declared.recovery.SiteNote.TheVariants.{Untold}
use Rattle.frame_file.specs.Frame.{framed, frames_from, IsPayload, ArePayloads}
use Rattle.frame_file.proofs.Frames.{frames_push, fit_push}
use Rattle.log_file.specs.declared.header.Header.{Header}
use Rattle.log_file.specs.declared.note.Note.{Note}
use Rattle.log_file.specs.Bytes.{Rows, Batch, batch_bytes, front_of, payloads_of, notes_of}
use Rattle.log_file.specs.Reading.{IsBatch, with_note, last_known}
use Rattle.log_file.proofs.GatheringLemmas.{batches_push}
use Rattle.log_file.proofs.LawLemmas.{payloads_push}
use Rattle.engine_log.specs.Handing.{AreFrames}
use Rattle.engine_log.specs.declared.ahead.EngineLog.{EngineLog}

-- ---- how many are noted

length_noted : (known : List SiteNote) (notes : List Note) → length (fold with_note known notes) ≡ length known
length_noted known [] = refl
length_noted known (n ∷ notes) = length_noted (with_note known n) notes ∙ length-set known n.dc n.known

pub length_known : (dcs : ℕ) (notes : List Note) → length (last_known dcs notes) ≡ dcs
length_known dcs notes = length_noted (replicate dcs Untold) notes ∙ length-replicate dcs Untold

-- ---- frames

pub first_frame : (h : Header) (base : Option Rows) (l : EngineLog) (payload file : List ℕ) → payload ∷ [] ≡ front_of h base
    → IsPayload payload → file ≡ framed 0 payload → l.frames ≡ 1 → l.events ≡ 0 → l.notes.items ≡ replicate h.dcs Untold → AreFrames h base l file []
first_frame h base l payload file front short is frames events notes =
    let all : payload ∷ [] ≡ payloads_of h base [] = front ∙ sym (append-nil (front_of h base)) in
    record {
      batches = [];
      are = tt;
      is = is ∙ (sym (append-nil (framed 0 payload)) ∙ ap (λ (ps : List (List ℕ)). frames_from 0 ps) all);
      fit = subst ArePayloads all (short, tt);
      frames = frames ∙ ap length all;
      rows = refl;
      count = events;
      known = notes;
    }

pub frames_more : (h : Header) (base : Option Rows) (l new : EngineLog) (file frame : List ℕ) (before more : List Event) (b : Batch)
    → AreFrames h base l file before → frame ≡ framed l.frames (batch_bytes b) → IsBatch h.dcs b → IsPayload (batch_bytes b)
    → b.rows ≡ flat_map printed more → new.frames ≡ l.frames + 1 → new.events ≡ l.events + length more
    → new.notes.items ≡ fold with_note l.notes.items b.notes → AreFrames h base new (file ++ frame) (before ++ more)
frames_more h base l new file frame before more b was is fits short rows frames events notes =
    let payloads = payloads_of h base was.batches in
    let all : payloads_of h base (was.batches ++ b ∷ []) ≡ payloads ++ batch_bytes b ∷ [] = payloads_push h base was.batches b in
    let start : List SiteNote = replicate h.dcs Untold in
    let count = was.count in
    let number = was.frames in
    record {
      batches = was.batches ++ b ∷ [];
      are = batches_push h.dcs was.batches b was.are fits;
      is = ap₂ (λ (x y : List ℕ). x ++ y) was.is is
          ∙ (sym (frames_push 0 l.frames payloads (batch_bytes b) (omega (arith, number))) ∙ ap (λ (ps : List (List ℕ)). frames_from 0 ps) (sym all));
      fit = subst ArePayloads (sym all) (fit_push payloads (batch_bytes b) was.fit short);
      frames = frames ∙ (omega (arith, number, length-append payloads (batch_bytes b ∷ [])) ∙ ap length (sym all));
      rows = flat_map-append (λ (x : Batch). x.rows) was.batches (b ∷ [])
          ∙ (ap₂ (λ (x y : List ℕ). x ++ y) was.rows (append-nil b.rows ∙ rows) ∙ sym (flat_map-append printed before more));
      count = omega (arith, events, count, length-append before more);
      known =
          notes
          ∙ (ap (λ (k : List SiteNote). fold with_note k b.notes) was.known
          ∙ (sym (fold-append with_note start (notes_of was.batches) b.notes)
          ∙ ap (λ (ns : List Note). fold with_note start ns) (flat_map_more (λ (x : Batch). x.notes) [] was.batches b)));
    }

-- nothing more
pub frames_same : (h : Header) (base : Option Rows) (l : EngineLog) (file bytes : List ℕ) (before more : List Event) → AreFrames h base l file before
    → bytes ≡ [] → more ≡ [] → AreFrames h base l (file ++ bytes) (before ++ more)
frames_same h base l file bytes before more was none nothing =
    let same : file ≡ file ++ bytes = sym (ap (λ (x : List ℕ). file ++ x) none ∙ append-nil file) in
    let still : before ≡ before ++ more = sym (ap (λ (x : List Event). before ++ x) nothing ∙ append-nil before) in
    subst (λ (f : List ℕ). AreFrames h base l f (before ++ more)) same (subst (λ (e : List Event). AreFrames h base l file e) still was)
