-- What a look at a record's place says.
use Rattle.std.proofs.Common.{◌≡◌, ℕ, List, position, slice_get, sym, ap, ap₂, ◌∙◌}
use Rattle.std.specs.Prelude.{Option, Some, None}
use Rattle.std.specs.Option.{option_map}
use Rattle.std.specs.Cmp.{IsEquivalence}
use Rattle.std.specs.Map.{keys_of, values_of}
use Rattle.std.proofs.lemmas.List.Quantifiers.{position-Some}
use Rattle.std.proofs.lemmas.Option.{slice_get-get_or, slice_get-map}
use Rattle.access_slots.specs.declared.slot.Record.{Record}
use Rattle.access_slots.specs.Locks.{record_eq}
use Rattle.access_slots.proofs.Records.{eq_same, eq_turned, eq_is}
use Rattle.lock_table.specs.declared.maps.Holding.{Holding}

pub record_laws : IsEquivalence record_eq
record_laws = record { refl = eq_same; symm = eq_turned; congr = λ x y z same. ap (λ (r : Record). record_eq r z) (eq_is x y same) }

-- an entry whose key and value are known is known
both_parts : (o : Option (Record × Holding)) (k : Record) (h : Holding) → option_map (λ e. e.0) o ≡ Some k → option_map (λ e. e.1) o ≡ Some h
    → o ≡ Some (k, h)
both_parts None k h key value = absurd (let bad : None ≡ Some k = key in cc)
both_parts (Some e) k h key value =
    let left : e.0 ≡ k = let is : Some e.0 ≡ Some k = key in cc in
    let right : e.1 ≡ h = let is : Some e.1 ≡ Some h = value in cc in
    ap₂ (λ (a : Record) (b : Holding). Some (a, b)) left right

-- what stands at the place that a look found
pub found_at : (es : List (Record × Holding)) (k : Record) (i : ℕ) (h : Holding) → position (record_eq k) (keys_of es) ≡ Some i
    → slice_get (values_of es) i ≡ Some h → slice_get es i ≡ Some (k, h)
found_at es k i h found value =
    let at = position-Some (record_eq k) (keys_of es) i k found in
    let key : slice_get (keys_of es) i ≡ Some k =
    slice_get-get_or (keys_of es) i k at.0 ∙ ap (λ (r : Record). Some r) (sym (eq_is k _ at.1)) in
    both_parts (slice_get es i) k h
    (sym (slice_get-map (λ e. e.0) es i) ∙ key) (sym (slice_get-map (λ e. e.1) es i) ∙ value)

-- two looks at one place
pub same_mode : (o : Option Holding) (g h : Holding) → o ≡ Some g → o ≡ Some h → h.mode ≡ g.mode
same_mode o g h is also = ap (λ (x : Holding). x.mode) (some_is h g (sym also ∙ is))
  where
    some_is : (x y : Holding) → Some x ≡ Some y → x ≡ y
    some_is x y e = cc
