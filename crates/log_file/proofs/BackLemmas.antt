-- A payload's fields are those that were written.
use Rattle.std.proofs.Common.{arith, ◌≡◌, ℕ, suc, ◌+◌, ◌-◌, ◌*◌, ◌<◌, ◌^◌, List, [], ◌∷◌, ◌++◌, length, take, drop}
use Rattle.std.proofs.Common.{refl, sym, ◌∙◌, ap, ap₂, subst, append_assoc, length-append}
use Rattle.std.specs.List.{flat_map}
use Rattle.std.proofs.lemmas.List.{take_at, drop_at}
use Rattle.std.proofs.lemmas.Nat.{from_le_bytes-to_le_bytes_8}
use Rattle.tc_core.specs.declared.recovery.SiteNote.{SiteNote}
use Rattle.tc_core.specs.declared.recovery.SiteNote.TheVariants.{Untold, Restarted, Up}
use Rattle.log_file.specs.declared.note.Note.{Note}
use Rattle.log_file.specs.Bytes.{kind_of, incarnation_of, mark_of, note_bytes, Batch, batch_bytes}
use Rattle.log_file.specs.Reading.{IsKnown, IsNote, AreNotes, IsBatch, IsSync}
use Rattle.log_file.specs.Joining.Fields.{known_in, note_in, notes_in, count_in, batch_in, IsShort}

-- ---- one note

known_back : (k : SiteNote) → known_in (kind_of k) (incarnation_of k) (mark_of k) ≡ k
known_back Untold = refl
known_back (Restarted news) = refl
known_back (Up n) = refl

kind_small : (k : SiteNote) → kind_of k < 2 ^ 64
kind_small Untold = omega arith
kind_small (Restarted news) = omega arith
kind_small (Up n) = omega arith

incarnation_small : (k : SiteNote) → IsKnown k → incarnation_of k < 2 ^ 64
incarnation_small Untold is = omega arith
incarnation_small (Restarted news) is = is.0
incarnation_small (Up n) is = is

mark_small : (k : SiteNote) → IsKnown k → mark_of k < 2 ^ 64
mark_small Untold is = omega arith
mark_small (Restarted news) is = is.1
mark_small (Up n) is = omega arith

abbrev note_at : ℕ → SiteNote → Note
note_at d k = record { dc = d; known = k }

same_note : (d e k l n o m p : ℕ) → d ≡ e → k ≡ l → n ≡ o → m ≡ p → note_at d (known_in k n m) ≡ note_at e (known_in l o p)
same_note d e k l n o m p a b c f =
    ap₂ note_at a (ap (λ (x : ℕ). known_in x n m) b ∙ (ap (λ (x : ℕ). known_in l x m) c ∙ ap (λ (x : ℕ). known_in l o x) f))

pub note_back : (n : Note) → IsNote n → note_in (note_bytes n) ≡ n
unfolding note_bytes
note_back n is =
    same_note _ n.dc _ (kind_of n.known) _ (incarnation_of n.known) _ (mark_of n.known)
    (from_le_bytes-to_le_bytes_8 n.dc is.0)
    (from_le_bytes-to_le_bytes_8 (kind_of n.known) (kind_small n.known))
    (from_le_bytes-to_le_bytes_8 (incarnation_of n.known) (incarnation_small n.known is.1))
    (from_le_bytes-to_le_bytes_8 (mark_of n.known) (mark_small n.known is.1))
    ∙ ap (note_at n.dc) (known_back n.known)

pub length_note : (n : Note) → length (note_bytes n) ≡ 32
unfolding note_bytes
length_note n = refl

-- ---- notes one behind another

pub length_notes : (notes : List Note) → length (flat_map note_bytes notes) ≡ 32 * length notes
length_notes [] = refl
length_notes (n ∷ notes) = omega (arith, length-append (note_bytes n) (flat_map note_bytes notes), length_note n, length_notes notes)

notes_back : (notes : List Note) (rest : List ℕ) → AreNotes notes → notes_in (length notes) (flat_map note_bytes notes ++ rest) ≡ notes
notes_back [] rest are = refl
notes_back (n ∷ notes) rest are =
    let more = flat_map note_bytes notes in
    let whole : (note_bytes n ++ more) ++ rest ≡ note_bytes n ++ (more ++ rest) = append_assoc (note_bytes n) more rest in
    let front : take 32 ((note_bytes n ++ more) ++ rest) ≡ note_bytes n = ap (λ (b : List ℕ). take 32 b) whole
    ∙ take_at (note_bytes n) (more ++ rest) 32 (length_note n) in
    let back : drop 32 ((note_bytes n ++ more) ++ rest) ≡ more ++ rest = ap (λ (b : List ℕ). drop 32 b) whole
    ∙ drop_at (note_bytes n) (more ++ rest) 32 (length_note n) in
    ap₂ (λ (x : Note) (xs : List Note). x ∷ xs) (ap note_in front ∙ note_back n are.0)
    (ap (λ (b : List ℕ). notes_in (length notes) b) back ∙ notes_back notes rest are.1)

pub notes_push : (notes : List Note) (n : Note) → AreNotes notes → IsNote n → AreNotes (notes ++ n ∷ [])
notes_push [] n are is = (is, tt)
notes_push (x ∷ notes) n are is = (are.0, notes_push notes n are.1 is)

-- one note more is read
pub notes_further : (notes new : List Note) (count k : ℕ) (x : Note) (rest front back : List ℕ) (total : List Note) → k < count
    → notes ++ notes_in (count - k) rest ≡ total → new ≡ notes ++ x ∷ [] → x ≡ note_in front → front ≡ take 32 rest → back ≡ drop 32 rest
    → new ++ notes_in (count - (k + 1)) back ≡ total
notes_further notes new count k x rest front back total more so_far grown is cut left =
    ap₂ (λ (xs : List Note) (b : List ℕ). xs ++ notes_in (count - (k + 1)) b) grown left
    ∙ append_assoc notes (x ∷ []) (notes_in (count - (k + 1)) (drop 32 rest))
    ∙ ap (λ (n : Note). notes ++ (n ∷ notes_in (count - (k + 1)) (drop 32 rest))) (is ∙ ap note_in cut)
    ∙ ap (λ (n : ℕ). notes ++ notes_in n rest) (sym (one_left count k more))
    ∙ so_far
  where
    one_left : (n i : ℕ) → i < n → n - i ≡ suc (n - (i + 1))
    one_left n i below = omega (arith, below)

-- ---- a batch

count_back : (b : Batch) → length b.notes < 2 ^ 64 → count_in (batch_bytes b) ≡ length b.notes
unfolding batch_bytes
count_back b small = from_le_bytes-to_le_bytes_8 (length b.notes) small

tail_back : (b : Batch) → drop 8 (batch_bytes b) ≡ flat_map note_bytes b.notes ++ b.rows
unfolding batch_bytes
tail_back b = refl

abbrev pub batch_at : List Note → List ℕ → Batch
batch_at notes rows = record { notes = notes; rows = rows }

pub batch_back : (b : Batch) → AreNotes b.notes → length b.notes < 2 ^ 64 → batch_in (batch_bytes b) ≡ b
batch_back b are small =
    let more = flat_map note_bytes b.notes in
    let notes : notes_in (count_in (batch_bytes b)) (drop 8 (batch_bytes b)) ≡ b.notes = ap₂ notes_in
    (count_back b small) (tail_back b) ∙ notes_back b.notes b.rows are in
    let rows : drop (32 * count_in (batch_bytes b)) (drop 8 (batch_bytes b)) ≡ b.rows
    = ap₂ (λ (n : ℕ) (x : List ℕ). drop (32 * n) x) (count_back b small) (tail_back b) ∙ drop_at more b.rows (32 * length b.notes) (length_notes b.notes) in
    ap₂ batch_at notes rows

length_batch : (b : Batch) → length (batch_bytes b) ≡ 8 + 32 * length b.notes + length b.rows
unfolding batch_bytes
length_batch b = omega (arith, length-append (flat_map note_bytes b.notes) b.rows, length_notes b.notes)

-- ---- payloads that are no batch's

pub sync_in : (dcs : ℕ) (p : List ℕ) (s : IsSync dcs p) → batch_in p ≡ s.batch
sync_in dcs p s = ap batch_in s.is ∙ batch_back s.batch s.fits.notes s.fits.count

pub short_none : (dcs : ℕ) (p : List ℕ) → IsShort p → IsSync dcs p → ⊥
short_none dcs p short s =
    let count : count_in p ≡ length s.batch.notes = ap count_in s.is ∙ count_back s.batch s.fits.count in
    let long = ap length s.is in
    omega (arith, short, count, long, length_batch s.batch)

pub unfit_none : (dcs : ℕ) (p : List ℕ) → (IsBatch dcs (batch_in p) → ⊥) → IsSync dcs p → ⊥
unfit_none dcs p unfit s = unfit (subst (IsBatch dcs) (sym (sync_in dcs p s)) s.fits)

pub other_none : (dcs : ℕ) (p : List ℕ) → (batch_bytes (batch_in p) ≡ p → ⊥) → IsSync dcs p → ⊥
other_none dcs p differs s = differs (ap batch_bytes (sync_in dcs p s) ∙ sym s.is)
