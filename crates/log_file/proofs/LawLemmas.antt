-- What is read is what was written.
use Rattle.std.proofs.Common.{◌≡◌, ◌⊎◌, inl, inr, ⊎_elim, ℕ, List, [], ◌∷◌, ◌++◌, map, reverse, refl, sym, ◌∙◌, ap, subst, append_assoc, Option}
use Rattle.std.specs.List.{flat_map}
use Rattle.std.proofs.lemmas.List.{map_push}
use Rattle.tc_core.specs.declared.recovery.SiteNote.{SiteNote}
use Rattle.tc_log.specs.declared.event.Event.{Event}
use Rattle.tc_log.specs.Printed.{printed}
use Rattle.tc_log.specs.Reading.{ArePrinted, AreEvents}
use Rattle.verifier.specs.Checked.{Checked}
use Rattle.transactions.specs.Legal.{Legal}
use Rattle.transactions.specs.Rows.{AllTakeFew}
use Rattle.transactions.proofs.Rows.{legal_prints}
use Rattle.frame_file.specs.Reading.{Reads, IsTold, IsBeforeOrAfter}
use Rattle.log_file.specs.declared.header.Header.{Header}
use Rattle.log_file.specs.Bytes.{Rows, Batch, batch_bytes, front_of, payloads_of, notes_of, rows_of}
use Rattle.log_file.specs.Reading.{IsStart, IsBatch, AreBatches, Says, last_known, Continue}
use Rattle.log_file.specs.Joining.Fields.{batch_in}
use Rattle.log_file.proofs.BackLemmas.{batch_back}
use Rattle.log_file.proofs.BaseLemmas.{front_same}
use Rattle.log_file.proofs.GatheringLemmas.{batches_push}

-- ---- batches

batch_same : (dcs : ℕ) (a b : Batch) → IsBatch dcs a → IsBatch dcs b → batch_bytes a ≡ batch_bytes b → a ≡ b
batch_same dcs a b x y same = sym (batch_back a x.notes x.count) ∙ (ap batch_in same ∙ batch_back b y.notes y.count)

first_same : (x y : List ℕ) (xs ys : List (List ℕ)) → x ∷ xs ≡ y ∷ ys → x ≡ y
first_same x y xs ys same = cc

rest_same : (x y : List ℕ) (xs ys : List (List ℕ)) → x ∷ xs ≡ y ∷ ys → xs ≡ ys
rest_same x y xs ys same = cc

-- batches whose payloads begin with those of others begin with them
continue : (dcs : ℕ) (a b : List Batch) (more : List (List ℕ)) → AreBatches dcs a → AreBatches dcs b
    → map batch_bytes b ≡ map batch_bytes a ++ more → Continue a b
continue dcs [] b more x y same = record { more = b; is = refl }
continue dcs (p ∷ a) [] more x y same = absurd (let bad : [] ≡ batch_bytes p ∷ (map batch_bytes a ++ more) = same in cc)
continue dcs (p ∷ a) (q ∷ b) more x y same =
    let one : q ≡ p = batch_same dcs q p y.0 x.0 (first_same _ _ _ _ same) in
    let r = continue dcs a b more x.1 y.1 (rest_same _ _ _ _ same) in
    record { more = r.more; is = joined p q b (a ++ r.more) one r.is }
  where
    joined : (p q : Batch) (b c : List Batch) → q ≡ p → b ≡ c → q ∷ b ≡ p ∷ c
    joined p q b c e f = cc

batches_same : (dcs : ℕ) (a b : List Batch) → AreBatches dcs a → AreBatches dcs b → map batch_bytes a ≡ map batch_bytes b → a ≡ b
batches_same dcs [] [] x y same = refl
batches_same dcs [] (q ∷ b) x y same = absurd (let bad : [] ≡ batch_bytes q ∷ map batch_bytes b = same in cc)
batches_same dcs (p ∷ a) [] x y same = absurd (let bad : batch_bytes p ∷ map batch_bytes a ≡ [] = same in cc)
batches_same dcs (p ∷ a) (q ∷ b) x y same =
    let one : p ≡ q = batch_same dcs p q x.0 y.0 (first_same _ _ _ _ same) in
    let r : a ≡ b = batches_same dcs a b x.1 y.1 (rest_same _ _ _ _ same) in
    cc

payloads_same : (h : Header) (a b : Option Rows) (x y : List Batch) → IsStart a → IsStart b → AreBatches h.dcs x → AreBatches h.dcs y
    → payloads_of h a x ≡ payloads_of h b y → (a ≡ b) × (x ≡ y)
payloads_same h a b x y start also are too same =
    let front = front_same h a b (map batch_bytes x) (map batch_bytes y) start also same in
    (front.0, batches_same h.dcs x y are too front.1)

pub payloads_push : (h : Header) (base : Option Rows) (batches : List Batch) (b : Batch)
    → payloads_of h base (batches ++ b ∷ []) ≡ payloads_of h base batches ++ batch_bytes b ∷ []
payloads_push h base batches b =
    ap (λ (ps : List (List ℕ)). front_of h base ++ ps) (map_push batch_bytes batches b)
    ∙ sym (append_assoc (front_of h base) (map batch_bytes batches) (batch_bytes b ∷ []))

-- ---- the laws

pub read_as_written : (h : Header) (base found : Option Rows) (batches : List Batch) (known : List SiteNote) (events written : List Event) → IsStart base
    → AreBatches h.dcs batches → AreEvents written → ArePrinted written (rows_of batches) → Says h (payloads_of h base batches) found known events
    → (events ≡ written) × (known ≡ last_known h.dcs (notes_of batches)) × (found ≡ base)
read_as_written h base found batches known events written start are is printed says =
    let both = payloads_same h base found batches says.batches start says.starts are says.are says.is in
    let same : batches ≡ says.batches = both.1 in
    let there : ArePrinted written (rows_of says.batches) = subst (λ (bs : List Batch). ArePrinted written (rows_of bs)) same printed in
    (sym (says.only written is there), says.known_is ∙ ap (λ (bs : List Batch). last_known h.dcs (notes_of bs)) (sym same), sym both.0)

pub legal_logs_are_read : (h : Header) (ps : List Checked) (base found : Option Rows) (log : List Event)
    (batches : List Batch) (known : List SiteNote) (events : List Event)
    → AllTakeFew ps → Legal ps log → AreEvents (reverse log) → IsStart base → AreBatches h.dcs batches → rows_of batches ≡ flat_map printed (reverse log)
    → Says h (payloads_of h base batches) found known events → events ≡ reverse log
legal_logs_are_read h ps base found log batches known events few legal is start are rows says =
    (read_as_written h base found batches known events (reverse log) start are is
    (subst (ArePrinted (reverse log)) (sym rows) (legal_prints ps log few legal)) says).0

pub acknowledged_are_read : (h : Header) (base other : Option Rows) (batches found : List Batch) (payload file : List ℕ) → IsStart base → IsStart other
    → AreBatches h.dcs batches → AreBatches h.dcs found → IsBeforeOrAfter (payloads_of h base batches) payload file → Reads file (payloads_of h other found)
    → (other ≡ base) × Continue batches found
acknowledged_are_read h base other batches found payload file start also x y left reads =
    let kept = left.kept (payloads_of h other found) reads in
    let front = front_same h other base (map batch_bytes found) (map batch_bytes batches ++ kept.more) also start
    (kept.is ∙ append_assoc (front_of h base) (map batch_bytes batches) kept.more) in
    (front.0, continue h.dcs batches found kept.more x y front.1)

pub crashes_are_read : (h : Header) (base other : Option Rows) (batches found : List Batch) (batch : Batch) (file : List ℕ) → IsStart base → IsStart other
    → AreBatches h.dcs batches → IsBatch h.dcs batch → AreBatches h.dcs found → IsBeforeOrAfter (payloads_of h base batches) (batch_bytes batch) file
    → IsTold (payloads_of h base batches) (batch_bytes batch) file → Reads file (payloads_of h other found)
    → (other ≡ base) × ((found ≡ batches) ⊎ (found ≡ batches ++ batch ∷ []))
crashes_are_read h base other batches found batch file start also x one y left told reads =
    ⊎_elim
    (λ same. (let both = payloads_same h other base found batches also start y x same in (both.0, inl both.1)))
    (λ same. (let both = payloads_same h other base found (batches ++ batch ∷ []) also start y (batches_push h.dcs batches batch x one)
    (same ∙ sym (payloads_push h base batches batch)) in (both.0, inr both.1)))
    (left.told (payloads_of h other found) reads told)
