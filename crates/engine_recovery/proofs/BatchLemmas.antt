-- A batch of all that is new, behind a file that tells of all.
use Rattle.std.proofs.Common.{◌≡◌, ℕ, suc, true, false, List, [], ◌∷◌, ◌++◌, length, reverse, length-append}
use Rattle.std.proofs.Common.{append-nil, append_assoc, refl, sym, ◌∙◌, ap, ap₂, subst, arith, Option, Some, None}
use Rattle.std.specs.Prelude.{◌^◌, ◌<◌, replicate, slice_set}
use Rattle.std.specs.List.{fold}
use Rattle.std.proofs.Math.Seq.{set-append_seam}
use Rattle.std.proofs.lemmas.List.{reverse-append, flat_map_more}
use Rattle.std.proofs.lemmas.List.Concat.{flat_map-append}
use Rattle.std.proofs.lemmas.List.Sums.{fold-append}
use Rattle.tc_log.specs.declared.event.Event.{Event}
use Rattle.tc_log.specs.declared.event.Event.TheVariants.{Checkpoint}
use Rattle.tc_log.specs.Printed.{printed}
use Rattle.tc_log.specs.Reading.{HaveRows, ArePrinted, AreEvents}
use Rattle.tc_core.specs.declared.recovery.SiteNote.{SiteNote}
use Rattle.tc_core.specs.declared.recovery.SiteNote.TheVariants.{Untold}
use Rattle.log_file.specs.declared.header.Header.{Header}
use Rattle.log_file.specs.declared.note.Note.{Note}
use Rattle.log_file.specs.Bytes.{Rows, Batch, notes_of as notes_in, rows_of}
use Rattle.log_file.specs.Reading.{IsBehind, IsBatch, begins_anew, with_note, last_known}
use Rattle.log_file.proofs.GatheringLemmas.{batches_push}
use Rattle.tc_world.specs.Whole.{Whole}
use Rattle.tc_world.specs.Recovery.{notes_of}
use Rattle.tc_world.specs.Ahead.{all_written}
use Rattle.engine_recovery.specs.Telling.{Contents, appended, FileTells}
use Rattle.engine_recovery.specs.Since.{TellsSince, noted_from}

-- ---- events

events_on : (xs ys : List Event) → AreEvents xs → AreEvents ys → AreEvents (xs ++ ys)
events_on [] ys are more = more
events_on (x ∷ xs) ys are more = (are.0, events_on xs ys are.1 more)

rows_on : (xs ys : List Event) → HaveRows xs → HaveRows ys → HaveRows (xs ++ ys)
rows_on [] ys have more = more
rows_on (x ∷ xs) ys have more = (have.0, rows_on xs ys have.1 more)

printed_on : (xs ys : List Event) (a b : List ℕ) → ArePrinted xs a → ArePrinted ys b → ArePrinted (xs ++ ys) (a ++ b)
printed_on xs ys a b one two = record {
  rows = rows_on xs ys one.rows two.rows;
  prints = flat_map-append printed xs ys ∙ ap₂ (λ (x y : List ℕ). x ++ y) one.prints two.prints;
}

anew_on : (xs ys : List Event) → begins_anew xs ≡ true → begins_anew (xs ++ ys) ≡ true
anew_on [] ys is = absurd (let bad : false ≡ true = is in cc)
anew_on (x ∷ xs) ys is = is

behind_on : (base : Option Rows) (xs ys : List Event) → IsBehind base xs → IsBehind base (xs ++ ys)
behind_on None xs ys is = tt
behind_on (Some base) xs ys is = anew_on xs ys is

-- ---- a batch more

pub since : (h : Header) (f : Contents) (w v : Whole) (b : Batch) → FileTells h f (all_written w) → TellsSince h.dcs w v b
    → FileTells h (appended f (b ∷ [])) (all_written v)
since h f w v b t s = record {
  starts = t.starts;
  behind = subst (IsBehind f.base) (sym log) (behind_on f.base (reverse w.core.events) (reverse s.begins.later) t.behind);
  are = batches_push h.dcs f.batches b t.are s.fits;
  numbers = subst AreEvents (sym log) (events_on (reverse w.core.events) (reverse s.begins.later) t.numbers s.numbers);
  rows = subst (λ (es : List Event). ArePrinted es (rows_of (f.batches ++ b ∷ []))) (sym log)
      (subst (ArePrinted (reverse w.core.events ++ reverse s.begins.later)) (flat_map_more (λ (x : Batch). x.rows) [] f.batches b)
      (printed_on (reverse w.core.events) (reverse s.begins.later) (rows_of f.batches) b.rows t.rows s.rows));
  notes = noted;
}
  where
    log : reverse v.core.events ≡ reverse w.core.events ++ reverse s.begins.later
    log = ap (λ (es : List Event). reverse es) s.begins.is ∙ reverse-append s.begins.later w.core.events

    start : List SiteNote
    start = replicate h.dcs Untold

    noted : last_known h.dcs (notes_in (f.batches ++ b ∷ [])) ≡ notes_of v
    noted =
        ap (λ (ns : List Note). fold with_note start ns) (sym (flat_map_more (λ (x : Batch). x.notes) [] f.batches b))
        ∙ (fold-append with_note start (notes_in f.batches) b.notes
        ∙ (ap (λ (known : List SiteNote). fold with_note known b.notes) t.notes ∙ s.notes))

-- ---- a file that begins anew

abbrev file_anew : Batch → Contents
file_anew b = record { base = Some []; batches = b ∷ [] }

pub anew_tells : (h : Header) (v : Whole) (before numbers : ℕ) (b : Batch) → v.core.events ≡ Checkpoint before numbers ∷ [] → before < 2 ^ 64
    → numbers < 2 ^ 64 → IsBatch h.dcs b → b.rows ≡ printed (Checkpoint before numbers) → last_known h.dcs b.notes ≡ notes_of v
    → FileTells h (file_anew b) (all_written v)
anew_tells h v before numbers b is small less fits rows notes =
    subst (λ (es : List Event). FileTells h (file_anew b) (record { events = es; notes = notes_of v })) (sym is) (record {
      starts = record { rows = tt; rise = tt; count = omega arith };
      behind = refl;
      are = (fits, tt);
      numbers = ((small, less), tt);
      rows = record {
        rows = (refl, tt);
        prints = ap (λ (r : List ℕ). r ++ []) (sym rows);
      };
      notes = ap (last_known h.dcs) (append-nil b.notes) ∙ notes;
    })

-- ---- notes of all data components

noted_on : (before known notes : List SiteNote) (d : ℕ) → d ≡ length before → length known ≡ length notes
    → fold with_note (before ++ known) (noted_from d notes) ≡ before ++ notes
noted_on before [] [] d at same = refl
noted_on before [] (n ∷ notes) d at same = absurd (omega (arith, same))
noted_on before (k ∷ known) [] d at same = absurd (omega (arith, same))
noted_on before (k ∷ known) (n ∷ notes) d at same =
    ap (λ (xs : List SiteNote). fold with_note xs (noted_from (suc d) notes))
    (ap (λ (i : ℕ). slice_set (before ++ k ∷ known) i n) at ∙ (set-append_seam before k known n ∙ sym (append_assoc before (n ∷ []) known)))
    ∙ (noted_on (before ++ n ∷ []) known notes (suc d) (omega (arith, at, length-append before (n ∷ []))) (omega (arith, same))
    ∙ append_assoc before (n ∷ []) notes)

pub all_noted : (known notes : List SiteNote) → length known ≡ length notes → fold with_note known (noted_from 0 notes) ≡ notes
all_noted known notes same = noted_on [] known notes 0 refl same
