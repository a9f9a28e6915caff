-- What is read of a file is what it tells.
use Rattle.std.proofs.Common.{◌≡◌, ◌⊎◌, inl, inr, ⊎_elim, ℕ, List, [], ◌∷◌, ◌++◌, reverse, sym, ◌∙◌, ap, ap₂, subst, Option}
use Rattle.std.proofs.lemmas.List.{reverse-reverse}
use Rattle.tc_log.specs.declared.event.Event.{Event}
use Rattle.tc_log.specs.Reading.{ArePrinted, AreEvents}
use Rattle.tc_core.specs.declared.recovery.SiteNote.{SiteNote}
use Rattle.frame_file.specs.Reading.{Reads}
use Rattle.frame_file.proofs.Readings.{reads_one}
use Rattle.log_file.specs.declared.header.Header.{Header}
use Rattle.log_file.specs.Bytes.{Rows, Batch, notes_of, rows_of}
use Rattle.log_file.specs.Reading.{IsBatch, AreBatches, Says, last_known}
use Rattle.log_file.proofs.LawLemmas.{read_as_written, crashes_are_read}
use Rattle.tc_world.specs.Ahead.{Written}
use Rattle.engine_recovery.specs.Telling.{Contents, payloads_in, appended, FileTells, IsRead}
use Rattle.engine_recovery.specs.Engine.{IsCutShort}

abbrev written_as : List Event → List SiteNote → Written
written_as events notes = record { events = events; notes = notes }

abbrev contents_as : Option Rows → List Batch → Contents
contents_as base batches = record { base = base; batches = batches }

-- the same logs, the newest event first
same_log : (xs ys : List Event) → reverse xs ≡ reverse ys → xs ≡ ys
same_log xs ys same = sym (reverse-reverse xs) ∙ (ap (λ (zs : List Event). reverse zs) same ∙ reverse-reverse ys)

pub read_batches : (h : Header) (bytes : List ℕ) (f : Contents) (p : Written) → IsRead h bytes f p → AreBatches h.dcs f.batches
read_batches h bytes f p r = subst (AreBatches h.dcs) r.batches r.says.are

-- where the payloads are those of a file that tells what was written, that is what is read
pub same_read : (h : Header) (bytes : List ℕ) (f g : Contents) (p q : Written) → FileTells h f p → IsRead h bytes g q
    → payloads_in h g ≡ payloads_in h f → q ≡ p
same_read h bytes f g p q t r same =
    let says : Says h (payloads_in h f) g.base q.notes (reverse q.events)
    = subst (λ (ps : List (List ℕ)). Says h ps g.base q.notes (reverse q.events)) same r.says in
    let is = read_as_written h f.base g.base f.batches q.notes (reverse q.events) (reverse p.events) t.starts t.are t.numbers t.rows says in
    ap₂ written_as (same_log q.events p.events is.0) (is.1 ∙ t.notes)

-- a file that is read tells what is read of it
pub read_tells : (h : Header) (bytes : List ℕ) (g : Contents) (p q : Written) → IsRead h bytes g q → q ≡ p → AreEvents (reverse p.events) → FileTells h g q
read_tells h bytes g p q r same numbers = record {
  starts = r.says.starts;
  behind = r.says.behind;
  are = read_batches h bytes g q r;
  numbers = subst (λ (w : Written). AreEvents (reverse w.events)) (sym same) numbers;
  rows = subst (λ (bs : List Batch). ArePrinted (reverse q.events) (rows_of bs)) r.batches r.says.printed;
  notes = sym (r.says.known_is ∙ ap (λ (bs : List Batch). last_known h.dcs (notes_of bs)) r.batches);
}

-- nothing was being written
pub at_rest : (h : Header) (bytes : List ℕ) (f g : Contents) (p q : Written) → FileTells h f p → Reads bytes (payloads_in h f) → IsRead h bytes g q
    → (payloads_in h g ≡ payloads_in h f) × (q ≡ p)
at_rest h bytes f g p q t reads r =
    let same = reads_one bytes (payloads_in h f) (payloads_in h g) reads r.reads in
    (same, same_read h bytes f g p q t r same)

last_batch : (dcs : ℕ) (bs : List Batch) (b : Batch) → AreBatches dcs (bs ++ b ∷ []) → IsBatch dcs b
last_batch dcs [] b are = are.0
last_batch dcs (x ∷ bs) b are = last_batch dcs bs b are.1

-- this batch was being appended
pub while_writing : (h : Header) (bytes : List ℕ) (f g : Contents) (b : Batch) (p next q : Written) → FileTells h f p
    → FileTells h (appended f (b ∷ [])) next → IsCutShort h f b bytes → IsRead h bytes g q
    → ((g ≡ f) × (q ≡ p)) ⊎ ((g ≡ appended f (b ∷ [])) × (q ≡ next))
while_writing h bytes f g b p next q t more cut r =
    let is = crashes_are_read h f.base g.base f.batches g.batches b bytes t.starts r.says.starts t.are (last_batch h.dcs f.batches b more.are)
    (read_batches h bytes g q r) cut.left cut.told r.reads in
    ⊎_elim
    (λ before. (let same : g ≡ f = ap₂ contents_as is.0 before in
    inl (same, same_read h bytes f g p q t r (ap (payloads_in h) same))))
    (λ after. (let same : g ≡ appended f (b ∷ []) = ap₂ contents_as is.0 after in
    inr (same, same_read h bytes (appended f (b ∷ [])) g next q more r (ap (payloads_in h) same))))
    is.1
