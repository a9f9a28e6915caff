-- One batch of rows more in a journal's file.
use Rattle.std.proofs.Common.{◌≡◌, ◌∙◌, ◌++◌, ◌∷◌, [], ℕ, List, Option, Some, None, true, false, length, refl, ap₂, sym, subst, arith, inl, inr}
use Rattle.std.specs.Prelude.{◌%◌, ◌+◌, ◌<◌, ◌≤◌, ◌^◌}
use Rattle.std.specs.List.{flat_map}
use Rattle.std.proofs.lemmas.List.{append-nil}
use Rattle.std.proofs.lemmas.List.Elements.{All-nil}
use Rattle.std.proofs.lemmas.Grind.{flat_map-append}
use Rattle.tc_log.specs.declared.event.Event.{Event}
use Rattle.tc_log.specs.Printed.{printed}
use Rattle.frame_file.specs.declared.device.DeviceError.TheVariants as device
use Rattle.frame_file.specs.declared.reading.FrameFault.{FrameFault}
use Rattle.frame_file.specs.declared.reading.FrameFault.TheVariants.{Device as DeviceFault, Full, Damaged}
use Rattle.frame_file.specs.Reading.{IsSettled}
use Rattle.log_file.specs.declared.note.Note.{Note}
use Rattle.log_file.specs.declared.file.LogFile.{LogFile}
use Rattle.log_file.specs.declared.header.Header.{Header}
use Rattle.log_file.specs.Bytes.{Rows as BaseRows, Batch, batch_bytes, payloads_of}
use Rattle.log_file.specs.Reading.{IsBase, IsBatch, IsBehind, begins_anew}
use Rattle.log_file.proofs.GatheringLemmas.{batches_push}
use Rattle.log_file.proofs.LawLemmas.{payloads_push}
use Rattle.frame_file.specs.Device.{LeavesOnly}
use Rattle.frame_file.specs.Reading.{IsBeforeOrAfter}
use Rattle.frame_file.proofs.Moments.{started, weaker}
use Rattle.log_journal.specs.Keeping.{HasWritten, HasWrittenBehind, IsLeft, Fails, told_as}
use Rattle.log_journal.specs.Leaving.{left_between, left_now}

-- rows, and nothing that is noted
abbrev pub of_rows : List ℕ → Batch
of_rows rows = record { notes = []; rows = rows }

is_batch : (dcs : ℕ) (rows : List ℕ) → length rows % 96 ≡ 0 → IsBatch dcs (of_rows rows)
is_batch dcs rows whole = record { notes = tt; count = omega arith; there = All-nil (λ (n : Note). n.dc < dcs); whole = whole }

-- what stands behind a base may go on
behind_more : (base : Option BaseRows) (before more : List Event) → IsBehind base before → IsBehind base (before ++ more)
behind_more None before more behind = tt
behind_more (Some base) [] more behind = absurd (let bad : false ≡ true = behind in cc)
behind_more (Some base) (e ∷ before) more behind = behind

append-one : (l : List ℕ) → flat_map (λ (x : Batch). x.rows) (of_rows l ∷ []) ≡ l
append-one l = append-nil l

pub written_push : {D : Type 0} (seen : D → List ℕ) (may_leave : D → List ℕ → Type 0) (h : Header) (file new : LogFile D)
    (before more : List Event) (rows : List ℕ) → HasWritten seen may_leave h file before → rows ≡ flat_map printed more
    → length rows % 96 ≡ 0
    → ((payloads : List (List ℕ)) → IsSettled seen may_leave file.frames payloads
    → IsSettled seen may_leave new.frames (payloads ++ batch_bytes (of_rows rows) ∷ []))
    → HasWritten seen may_leave h new (before ++ more)
written_push seen may_leave h file new before more rows was rows_are whole appended =
    let b = of_rows rows in
    record {
      base = was.base;
      starts = was.starts;
      behind = behind_more was.base before more was.behind;
      batches = was.batches ++ b ∷ [];
      are = batches_push h.dcs was.batches b was.are (is_batch h.dcs rows whole);
      settled = subst (IsSettled seen may_leave new.frames) (sym (payloads_push h was.base was.batches b))
          (appended (payloads_of h was.base was.batches) was.settled);
      rows = flat_map-append (λ (x : Batch). x.rows) was.batches (b ∷ [])
          ∙ (ap₂ (λ (l m : List ℕ). l ++ m) was.rows (append-one rows ∙ rows_are)
          ∙ sym (flat_map-append printed before more));
    }

-- a log that begins anew, in one batch behind the base
pub written_anew : {D : Type 0} (seen : D → List ℕ) (may_leave : D → List ℕ → Type 0) (h : Header) (file : LogFile D) (base : BaseRows)
    (events : List Event) (rows : List ℕ) → IsBase base → begins_anew events ≡ true → rows ≡ flat_map printed events → length rows % 96 ≡ 0
    → IsSettled seen may_leave file.frames (payloads_of h (Some base) (of_rows rows ∷ [])) → HasWrittenBehind seen may_leave h (Some base) file events
written_anew seen may_leave h file base events rows is anew rows_are whole settled = (
  record {
    base = Some base;
    starts = is;
    behind = anew;
    batches = of_rows rows ∷ [];
    are = (is_batch h.dcs rows whole, tt);
    settled = settled;
    rows = append-one rows ∙ rows_are;
  },
  refl,
)

-- ---- what a crash leaves

module _ {D : Type 0} (seen : D → List ℕ) (may_leave : D → List ℕ → Type 0) (h : Header) (file : LogFile D) (before more : List Event)
    (was : HasWritten seen may_leave h file before) where
  module _ (moment : D → ℕ) (left_since : D → ℕ → List ℕ → Type 0)
      (only_now : (d : D) (left : List ℕ) → left_since d (moment d) left → may_leave d left) where
    -- nothing was written
    pub unwritten_leaves : LeavesOnly moment left_since file.frames.device file.frames.device (IsLeft h before more)
    unwritten_leaves = started moment left_since file.frames.device (IsLeft h before more)
        (λ left since. left_now seen may_leave h file before more was left (only_now file.frames.device left since))

    -- rows were
    pub written_leaves : (new : D) (rows : List ℕ) → rows ≡ flat_map printed more
        → ((payloads : List (List ℕ)) → IsSettled seen may_leave file.frames payloads
        → LeavesOnly moment left_since file.frames.device new (IsBeforeOrAfter payloads (batch_bytes (of_rows rows))))
        → LeavesOnly moment left_since file.frames.device new (IsLeft h before more)
    written_leaves new rows are run =
        let payloads = payloads_of h was.base was.batches in
        weaker moment left_since file.frames.device new (IsBeforeOrAfter payloads (batch_bytes (of_rows rows))) (IsLeft h before more)
        (run payloads was.settled) (λ left it. left_between seen may_leave h file before more was rows left are it)

-- what an append says of its fault, as it is told
pub fails : {D : Type 0} (faults : D → ℕ) (before after : LogFile D) (fault : FrameFault)
    → (fault ≡ DeviceFault device.Failed → faults before.frames.device < faults after.frames.device)
    → (fault ≡ Full → 2 ^ 64 ≤ before.frames.count + 1) → (fault ≡ DeviceFault device.Unkept → ⊥)
    → ((number : ℕ) → fault ≡ Damaged number → ⊥) → Fails faults before (told_as fault) after
fails faults before after (DeviceFault device.Memory) failed full uncut undamaged = tt
fails faults before after (DeviceFault device.Failed) failed full uncut undamaged = inl (failed refl)
fails faults before after (DeviceFault device.Unkept) failed full uncut undamaged = absurd (uncut refl)
fails faults before after Full failed full uncut undamaged = inr (full refl)
fails faults before after (Damaged number) failed full uncut undamaged = absurd (undamaged number refl)
