-- Places in a history that grows.
use Rattle.std.proofs.Common.{◌≡◌, ℕ, ◌<◌, ◌≤◌, List, [], ◌∷◌, ◌++◌, ◌⊎◌, length, refl, sym, ◌∙◌, ap, inl, inr, arith, length-append}
use Rattle.tc_log.specs.declared.event.Event.{Event}
use Rattle.history.specs.Places.{StandsAt, Begins}

pub stands_more : (h : List Event) (e : Event) (place : ℕ) (x : Event) → StandsAt h place x → StandsAt (e ∷ h) place x
stands_more h e place x at = record { later = e ∷ at.later; earlier = at.earlier; is = ap (λ (l : List Event). e ∷ l) at.is; count = at.count }

pub stands_here : (h : List Event) (e : Event) → StandsAt (e ∷ h) (length h) e
stands_here h e = record { later = []; earlier = h; is = refl; count = refl }

-- what stands in the longer history stood there before, or is the new event
pub stood : (h : List Event) (e : Event) (place : ℕ) (x : Event) → StandsAt (e ∷ h) place x → (StandsAt h place x) ⊎ ((place ≡ length h) × (e ≡ x))
stood h e place x at = by at.later at.is
  where
    by : (later : List Event) → e ∷ h ≡ later ++ x ∷ at.earlier → (StandsAt h place x) ⊎ ((place ≡ length h) × (e ≡ x))
    by [] is = (let same : h ≡ at.earlier = cc in inr (sym at.count ∙ ap length (sym same), cc))
    by (y ∷ later) is = inl (record { later = later; earlier = at.earlier; is = cc; count = at.count })

pub stands_within : (h : List Event) (place : ℕ) (x : Event) → StandsAt h place x → place < length h
stands_within h place x at = omega (arith, ap length at.is, length-append at.later (x ∷ at.earlier), at.count)

pub begins_more : (first h : List Event) (e : Event) → Begins first h → Begins first (e ∷ h)
begins_more first h e b = record { later = e ∷ b.later; is = ap (λ (l : List Event). e ∷ l) b.is }

pub begins_length : (first h : List Event) → Begins first h → length first ≤ length h
begins_length first h b = omega (arith, ap length b.is, length-append b.later first)
