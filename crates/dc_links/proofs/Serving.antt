-- A data component that is served: none, or some wires more.
use Rattle.std.proofs.Common.{◌≡◌, ℕ, ap, sym, refl, ◌∙◌, inl, inr, [], ◌∷◌, ◌++◌, fold}
use Rattle.std.proofs.lemmas.Bool.{cases_eq}
use Rattle.std.proofs.lemmas.List.Sums.{fold_push, fold-append}
use Rattle.std.proofs.lemmas.List.Elements.{All-append, All-cons, All-nil}
use Rattle.access_slots.specs.Locks.{target}
use Rattle.access_slots.specs.declared.op.Wire.{Wire}
use Rattle.data_component.specs.Store.{Store, performed}
use Rattle.dc_links.specs.Serving.{IsFor, IsServed}

pub not_yet : (number : ℕ) (dc : Store) → IsServed number dc dc
not_yet number dc = record { wires = []; own = All-nil (IsFor number); performs = refl }

pub one_more : (number : ℕ) (before now after : Store) (w : Wire) → IsServed number before now → IsFor number w → after ≡ performed now w
    → IsServed number before after
one_more number before now after w served own is = record {
  wires = served.wires ++ w ∷ [];
  own = All-append (IsFor number) served.wires (w ∷ []) served.own (All-cons (IsFor number) w [] own (All-nil (IsFor number)));
  performs = is ∙ (ap (λ s. performed s w) served.performs ∙ sym (fold_push performed before served.wires w));
}

-- a wire for the component is performed, and another one isn't
pub served_on : (number : ℕ) (before now after : Store) (w : Wire) → IsServed number before now
    → (IsFor number w → after ≡ performed now w) → ((IsFor number w → ⊥) → after ≡ now) → IsServed number before after
served_on number before now after w served here elsewhere =
    elim (cases_eq (target w.op).dc number) [
      | inl own ↦ one_more number before now after w served own (here own)
      | inr other ↦ record { wires = served.wires; own = served.own; performs = elsewhere other ∙ served.performs }
    ]

-- what was served, and then served on, was served
pub then_served : (number : ℕ) (before now after : Store) → IsServed number before now → IsServed number now after → IsServed number before after
then_served number before now after first then = record {
  wires = first.wires ++ then.wires;
  own = All-append (IsFor number) first.wires then.wires first.own then.own;
  performs = then.performs ∙ (ap (λ s. fold performed s then.wires) first.performs ∙ sym (fold-append performed before first.wires then.wires));
}
