-- One batch more, or none.
use Rattle.std.proofs.Common.{◌≡◌, ℕ, ◌+◌, ◌-◌, ◌*◌, ◌%◌, ◌<◌, ◌^◌, List, [], ◌∷◌, ◌++◌, drop, length, map, reverse}
use Rattle.std.proofs.Common.{Option, refl, sym, ◌∙◌, ap, subst, arith, length-drop}
use Rattle.std.specs.List.{All, flat_map, fold}
use Rattle.std.proofs.lemmas.List.{length-reverse}
use Rattle.tc_log.specs.declared.event.Event.{Event}
use Rattle.tc_log.specs.Printed.{printed}
use Rattle.tc_core.specs.Core.{Core}
use Rattle.frame_file.specs.Frame.{framed, IsPayload}
use Rattle.log_file.specs.declared.header.Header.{Header}
use Rattle.log_file.specs.declared.note.Note.{Note}
use Rattle.log_file.specs.Bytes.{Rows, Batch, batch_bytes, notes_of}
use Rattle.log_file.specs.Reading.{AreNotes, with_note}
use Rattle.engine_log.specs.Notes.{known_of}
use Rattle.engine_log.specs.Handing.{AreFrames, IsOneMore}
use Rattle.engine_log.specs.declared.ahead.EngineLog.{EngineLog}
use Rattle.engine_log.proofs.HandingLemmas.{length_known, frames_more, frames_same}

whole_rows : (a n : ℕ) → a ≡ 96 * n → a % 96 ≡ 0
whole_rows a n is = omega (arith, is)

no_rows : (a n k : ℕ) → a ≡ 96 * (n - k) → a ≡ 0 → n - k ≡ 0
no_rows a n k is zero = omega (arith, is, zero)

none_left : (events : List Event) → length events ≡ 0 → events ≡ []
none_left [] zero = refl
none_left (e ∷ events) zero = absurd (omega (arith, zero))

module _ (l : EngineLog) (c : Core) (notes : List Note) (rows : List ℕ) where
  abbrev events : List Event
  events = reverse c.events

  abbrev batch : Batch
  batch = record { notes = notes; rows = rows }

  -- so many data components there are as the header says
  same_dcs : (h : Header) (base : Option Rows) (file : List ℕ) (before : List Event) → length l.notes.items ≡ c.dcs → AreFrames h base l file before
      → c.dcs ≡ h.dcs
  same_dcs h base file before len was = sym len ∙ (ap length was.known ∙ length_known h.dcs (notes_of was.batches))

  pub one_more : (new : EngineLog) (frame : List ℕ) → length l.notes.items ≡ c.dcs → AreNotes notes → length notes < 2 ^ 64
      → All (λ (n : Note). n.dc < c.dcs) notes → fold with_note l.notes.items notes ≡ map known_of c.sites
      → (l.notes.items ≡ map known_of c.sites → notes ≡ []) → rows ≡ flat_map printed (drop l.events events)
      → length rows ≡ 96 * (length c.events - l.events) → (notes ≡ [] → rows ≡ [] → ⊥) → frame ≡ framed l.frames (batch_bytes batch)
      → IsPayload (batch_bytes batch) → new.frames ≡ l.frames + 1 → new.events ≡ l.events + (length c.events - l.events)
      → new.notes.items ≡ fold with_note l.notes.items notes → IsOneMore l c frame new
  one_more new frame len numbers few there known none printed_are size something is fits frames count noted = record {
    handed = λ h base file before was.
        let dcs : c.dcs ≡ h.dcs = same_dcs h base file before len was in
        let left : drop l.events events ≡ drop (length before) events = ap (λ (n : ℕ). drop n events) was.count in
        let more : length (drop l.events events) ≡ length c.events - l.events =
        length-drop l.events events ∙ ap (λ (n : ℕ). n - l.events) (length-reverse c.events) in
        subst (λ (e : List Event). AreFrames h base new (file ++ frame) (before ++ e)) left
        (frames_more h base l new file frame before (drop l.events events) batch was is
        (record {
          notes = numbers;
          count = few;
          there = subst (λ (n : ℕ). All (λ (x : Note). x.dc < n) notes) dcs there;
          whole = whole_rows (length rows) (length c.events - l.events) size;
        }) fits printed_are frames (count ∙ ap (λ (n : ℕ). l.events + n) (sym more)) noted);
    noted = noted ∙ known;
    nothing = λ no_events same. absurd (something (none same) (printed_are ∙ ap (λ (e : List Event). flat_map printed e) no_events));
  }

  -- nothing has changed
  pub none_more : (bytes : List ℕ) → bytes ≡ [] → fold with_note l.notes.items notes ≡ map known_of c.sites → notes ≡ []
      → length rows ≡ 96 * (length c.events - l.events) → rows ≡ [] → IsOneMore l c bytes l
  none_more bytes empty known none size no_row =
      let zero : length rows ≡ 0 = ap length no_row in
      let gone : length c.events - l.events ≡ 0 = no_rows (length rows) (length c.events) l.events size zero in
      let left : drop l.events events ≡ [] =
      none_left (drop l.events events) (length-drop l.events events ∙ (ap (λ (n : ℕ). n - l.events) (length-reverse c.events) ∙ gone)) in
      record {
        handed = λ h base file before was. frames_same h base l file bytes before (drop (length before) events) was empty
            (ap (λ (n : ℕ). drop n events) (sym was.count) ∙ left);
        noted = ap (λ (ns : List Note). fold with_note l.notes.items ns) (sym none) ∙ known;
        nothing = λ a b. empty;
      }
