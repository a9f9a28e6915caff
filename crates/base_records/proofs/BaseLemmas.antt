-- Data components that begin with the rows with which a log begins.
use Rattle.std.proofs.Common.{◌≡◌, ◌∙◌, ◌<◌, ◌≤◌, ◌+◌, ℕ, zero, suc, List, [], ◌∷◌, length, get_or, Some, None, Option, refl, sym, ap, subst, arith, inl, inr}
use Rattle.std.specs.Prelude.{slice_get}
use Rattle.std.specs.List.{All}
use Rattle.std.proofs.lemmas.Bool.{cases_lt}
use Rattle.std.proofs.lemmas.List.Elements.{All-cons, All-nil}
use Rattle.std.proofs.lemmas.Option.{same_Some, slice_get_within, get_or_from_slice_get}
use Rattle.tc_log.specs.declared.event.Event.{Event}
use Rattle.data_component.specs.Sorted.{Rows}
use Rattle.data_component.specs.Store.{Store, begun_with}
use Rattle.data_component.specs.Beginning.{AreBegun}
use Rattle.tc_world.proofs.ComingBack.{all_at}
use Rattle.coming_back.specs.Coming.{HasOnlyRows}
use Rattle.base_records.specs.Beginning.{first_given, own_count, HaveBegun, IsCrowded}

-- ---- which has more rows than room

fits_here : (rows : Rows) (dcs : List Store) (d : ℕ) (s : Store) → s ≡ get_or dcs d s → own_count d rows ≤ s.rows → IsCrowded rows dcs d → ⊥
fits_here rows dcs d s is fits crowded =
    let same : s ≡ crowded.s = is ∙ get_or_from_slice_get dcs d crowded.s s crowded.at in
    let more = crowded.more in
    let rows_are : s.rows ≡ crowded.s.rows = ap (λ (x : Store). x.rows) same in
    omega (arith, more, rows_are, fits)

pub one_fits : (rows : Rows) (dcs : List Store) (d : ℕ) (s : Store) → ((k : ℕ) → k < d → IsCrowded rows dcs k → ⊥) → s ≡ get_or dcs d s
    → own_count d rows ≤ s.rows → (k : ℕ) → k < d + 1 → IsCrowded rows dcs k → ⊥
one_fits rows dcs d s before is fits k less crowded = elim (cases_lt k d) [
  | inl low ↦ before k low crowded
  | inr up ↦ let same : k ≡ d = omega (arith, less, up) in fits_here rows dcs d s is fits (subst (IsCrowded rows dcs) same crowded)
]

-- ---- each has only its rows

all_by : {X : Type 0} (P : X → Type 0) (xs : List X) → ((k : ℕ) (x : X) → slice_get xs k ≡ Some x → P x) → All P xs
all_by P [] each = All-nil P
all_by P (x ∷ xs) each = All-cons P x xs (each 0 x refl) (all_by P xs (λ k y at. each (suc k) y at))

there_is : {X : Type 0} (xs : List X) (k : ℕ) → k < length xs → (x : X) × (slice_get xs k ≡ Some x)
there_is [] k inside = absurd (omega (arith, inside))
there_is (x ∷ xs) zero inside = (x, refl)
there_is (x ∷ xs) (suc k) inside = there_is xs k (omega (arith, inside))

begun_one : (rows : Rows) (mark : ℕ) (s : Store) → HasOnlyRows s → HasOnlyRows (begun_with rows mark s)
begun_one rows mark s only = record { list = only.list; saved = only.saved; mark = refl; saved_mark = refl; never = only.never }

begun_rows : (rows : Rows) (mark : ℕ) (empties begun : List Store) → AreBegun rows mark empties begun → All HasOnlyRows empties → All HasOnlyRows begun
begun_rows rows mark empties begun are only = all_by HasOnlyRows begun
    (λ k s at.
    let old = there_is empties k (let count = are.count in let inside = slice_get_within begun k s at in omega (arith, count, inside)) in
    let one = are.each k old.0 old.1 in
    subst HasOnlyRows (same_Some (begun_with one.own mark old.0) s (sym one.at ∙ at))
    (begun_one one.own mark old.0 (all_at HasOnlyRows empties k old.0 old.1 only)))

pub have_only_rows : (base : Option Rows) (events : List Event) (empties begun : List Store) → HaveBegun base events empties begun
    → All HasOnlyRows empties → All HasOnlyRows begun
have_only_rows None events empties begun same only = subst (All HasOnlyRows) (sym same) only
have_only_rows (Some rows) events empties begun are only = begun_rows rows (first_given events) empties begun are only

pub begun_count : (base : Option Rows) (events : List Event) (empties begun : List Store) → HaveBegun base events empties begun
    → length begun ≡ length empties
begun_count None events empties begun same = ap length same
begun_count (Some rows) events empties begun are = are.count
