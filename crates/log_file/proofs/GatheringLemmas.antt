-- Batches one after another.
use Rattle.std.proofs.Common.{arith, ◌≡◌, ℕ, zero, suc, ◌+◌, ◌%◌, ◌<◌, ◌≤◌, List, [], ◌∷◌, ◌++◌, length, get_or, take}
use Rattle.std.proofs.Common.{map, replicate, Vec, refl, sym, ◌∙◌, ap, ap₂, subst, length-append}
use Rattle.std.specs.List.{All, fold}
use Rattle.std.specs.declared.alloc.Global.{Global}
use Rattle.std.proofs.lemmas.List.{length-map, length-take-le, get_or-take, get_or-map, take-map, map_push, map_more, take_all, flat_map_more}
use Rattle.std.proofs.lemmas.List.Sums.{fold-append}
use Rattle.tc_core.specs.declared.recovery.SiteNote.{SiteNote}
use Rattle.tc_core.specs.declared.recovery.SiteNote.TheVariants.{Untold}
use Rattle.frame_file.specs.Reading.{payloads_in}
use Rattle.log_file.specs.declared.note.Note.{Note}
use Rattle.log_file.specs.Bytes.{Batch, batch_bytes, notes_of, rows_of}
use Rattle.log_file.specs.Reading.{IsBatch, AreBatches, IsSync, IsFirstNoBatch, with_note}
use Rattle.log_file.specs.Joining.Fields.{batch_in, AreGathered}

abbrev Vecs : Type 0
Vecs = List (Vec ℕ Global)

abbrev items : Vec ℕ Global → List ℕ
items v = v.items

pub batches_push : (dcs : ℕ) (batches : List Batch) (b : Batch) → AreBatches dcs batches → IsBatch dcs b → AreBatches dcs (batches ++ b ∷ [])
batches_push dcs [] b are is = (is, tt)
batches_push dcs (x ∷ batches) b are is = (are.0, batches_push dcs batches b are.1 is)

pub none_gathered : (dcs : ℕ) (known : List SiteNote) (rows : List ℕ) → known ≡ replicate dcs Untold → rows ≡ [] → AreGathered dcs [] known rows
none_gathered dcs known rows a b = record { batches = []; is = refl; are = tt; known_is = a; rows_are = b }

gathered_push : (dcs : ℕ) (payloads : List (List ℕ)) (p : List ℕ) (known after : List SiteNote) (rows all : List ℕ) → AreGathered dcs payloads known rows
    → IsBatch dcs (batch_in p) → p ≡ batch_bytes (batch_in p) → after ≡ fold with_note known (batch_in p).notes → all ≡ rows ++ (batch_in p).rows
    → AreGathered dcs (payloads ++ p ∷ []) after all
gathered_push dcs payloads p known after rows all g fits is noted grown =
    let b = batch_in p in
    let start : List SiteNote = replicate dcs Untold in
    let notes : notes_of g.batches ++ b.notes ≡ notes_of (g.batches ++ b ∷ []) = flat_map_more (λ (x : Batch). x.notes) [] g.batches b in
    record {
      batches = g.batches ++ b ∷ [];
      is = ap₂ (λ (ps : List (List ℕ)) (q : List ℕ). ps ++ q ∷ []) g.is is ∙ sym (map_push batch_bytes g.batches b);
      are = batches_push dcs g.batches b g.are fits;
      known_is =
          noted
          ∙ (ap (λ (k : List SiteNote). fold with_note k b.notes) g.known_is
          ∙ (sym (fold-append with_note start (notes_of g.batches) b.notes) ∙ ap (λ (ns : List Note). fold with_note start ns) notes));
      rows_are = grown ∙ (ap (λ (r : List ℕ). r ++ b.rows) g.rows_are ∙ flat_map_more (λ (x : Batch). x.rows) [] g.batches b);
    }

-- one batch more is gathered
pub gathered_more : (dcs : ℕ) (vecs : Vecs) (place : ℕ) (v : Vec ℕ Global) (p : List ℕ) (known after : List SiteNote)
    (rows all : List ℕ) (notes : List Note) (more : List ℕ)
    → place < length vecs → v ≡ get_or vecs place v → p ≡ v.items → AreGathered dcs (payloads_in (take place vecs)) known rows → IsBatch dcs (batch_in p)
    → p ≡ batch_bytes (batch_in p) → notes ≡ (batch_in p).notes → more ≡ (batch_in p).rows → after ≡ fold with_note known notes → all ≡ rows ++ more
    → AreGathered dcs (payloads_in (take (place + 1) vecs)) after all
gathered_more dcs vecs place v p known after rows all notes more inside at same g fits is notes_are more_are noted grown =
    let here : payloads_in (take place vecs) ++ p ∷ [] ≡ payloads_in (take (place + 1) vecs)
    = ap (λ (x : List ℕ). payloads_in (take place vecs) ++ x ∷ []) (same ∙ ap items at) ∙ sym (map_more items vecs place v inside) in
    subst (λ (ps : List (List ℕ)). AreGathered dcs ps after all) here
    (gathered_push dcs (payloads_in (take place vecs)) p known after rows all g fits is (noted ∙ ap (λ (ns : List Note). fold with_note known ns) notes_are)
    (grown ∙ ap (λ (r : List ℕ). rows ++ r) more_are))

pub all_gathered : (dcs : ℕ) (vecs : Vecs) (place : ℕ) (known : List SiteNote) (rows : List ℕ) → length vecs ≤ place
    → AreGathered dcs (payloads_in (take place vecs)) known rows → AreGathered dcs (payloads_in vecs) known rows
all_gathered dcs vecs place known rows end g = subst (λ (vs : Vecs). AreGathered dcs (payloads_in vs) known rows) (take_all place vecs end) g

-- ---- the first that is no batch's

sync_at : (dcs : ℕ) (batches : List Batch) → AreBatches dcs batches → (k : ℕ) (d : List ℕ) → k < length batches
    → IsSync dcs (get_or (map batch_bytes batches) k d)
sync_at dcs [] are k d below = absurd (omega (arith, below))
sync_at dcs (b ∷ batches) are zero d below = record { batch = b; fits = are.0; is = refl }
sync_at dcs (b ∷ batches) are (suc k) d below = sync_at dcs batches are.1 k d (omega (arith, below))

each_before : (dcs : ℕ) (vecs : Vecs) (place : ℕ) (known : List SiteNote) (rows : List ℕ) → place < length vecs
    → AreGathered dcs (payloads_in (take place vecs)) known rows
    → (k : ℕ) (d : List ℕ) → k < place → IsSync dcs (get_or (payloads_in vecs) k d)
each_before dcs vecs place known rows inside g k d below =
    let all = payloads_in vecs in
    let front : take place all ≡ map batch_bytes g.batches = take-map items place vecs ∙ g.is in
    let count : length (map batch_bytes g.batches) ≡ place
    = ap length (sym front) ∙ length-take-le place all (omega (arith, inside, length-map vecs items)) in
    let here : get_or all k d ≡ get_or (map batch_bytes g.batches) k d
    = sym (get_or-take place all k d below) ∙ ap (λ (ps : List (List ℕ)). get_or ps k d) front in
    subst (IsSync dcs) (sym here) (sync_at dcs g.batches g.are k d (omega (arith, below, count, length-map g.batches batch_bytes)))

pub first_none : (dcs : ℕ) (vecs : Vecs) (place : ℕ) (v : Vec ℕ Global) (p : List ℕ) (known : List SiteNote)
    (rows : List ℕ) → place < length vecs → v ≡ get_or vecs place v → p ≡ v.items
    → AreGathered dcs (payloads_in (take place vecs)) known rows → (IsSync dcs p → ⊥) → IsFirstNoBatch dcs (payloads_in vecs) place
first_none dcs vecs place v p known rows inside at same g never = record {
  inside = omega (arith, inside, length-map vecs items);
  before = each_before dcs vecs place known rows inside g;
  none = λ d sync. never (subst (IsSync dcs) (get_or-map items vecs place v d inside ∙ (ap items (sym at) ∙ sym same)) sync);
}

-- ---- whole rows

whole_sum : (a b c : ℕ) → a % 96 ≡ 0 → b % 96 ≡ 0 → c ≡ a + b → c % 96 ≡ 0
whole_sum a b c x y is = omega (arith, x, y, is)

pub whole_rows : (dcs : ℕ) (batches : List Batch) → AreBatches dcs batches → length (rows_of batches) % 96 ≡ 0
whole_rows dcs [] are = refl
whole_rows dcs (b ∷ batches) are =
    whole_sum (length b.rows) (length (rows_of batches)) (length (b.rows ++ rows_of batches)) are.0.whole
    (whole_rows dcs batches are.1) (length-append b.rows (rows_of batches))

-- ---- what is noted

-- notes of data components that there are
pub there_here : (dcs : ℕ) (known : List SiteNote) (notes same : List Note) → length known ≡ dcs → notes ≡ same → All (λ (n : Note). n.dc < dcs) same
    → All (λ (n : Note). n.dc < length known) notes
there_here dcs known notes same len is all k d inside =
    subst (λ (m : ℕ). (get_or notes k d).dc < m) (sym len) ((subst (λ (ns : List Note). All (λ (n : Note). n.dc < dcs) ns) (sym is) all) k d inside)
