-- Places of the log, counted from the oldest event, and of the history, which has the newest first.
use Rattle.std.proofs.Common.{arith, ◌≡◌, ℕ, zero, suc, ◌<◌, List, [], ◌∷◌, ◌++◌, ◌⊎◌, length, sym, refl, ap, inl, inr, ◌∙◌, Some, None}
use Rattle.std.specs.Prelude.{reverse}
use Rattle.std.specs.List.{slice_get}
use Rattle.std.proofs.lemmas.Bool.{cases_lt}
use Rattle.std.proofs.lemmas.Option.{slice_get_within}
use Rattle.std.proofs.lemmas.List.{length-append, length-reverse, append_assoc, reverse-append, reverse-reverse}
use Rattle.tc_log.specs.declared.event.Event.{Event}
use Rattle.history.specs.Places.{StandsAt, Begins, StartsWith, Each}

get_left : {X : Type 0} (xs ys : List X) (k : ℕ) → k < length xs → slice_get (xs ++ ys) k ≡ slice_get xs k
get_left [] ys k lt = absurd (omega arith)
get_left (x ∷ xs) ys zero lt = refl
get_left (x ∷ xs) ys (suc k) lt = get_left xs ys k (omega arith)

get_last : {X : Type 0} (xs : List X) (y : X) → slice_get (xs ++ y ∷ []) (length xs) ≡ Some y
get_last [] y = refl
get_last (x ∷ xs) y = get_last xs y

-- what stands in a longer list stood there before, or is the new last element
get_pushed : {X : Type 0} (xs : List X) (y : X) (k : ℕ) (x : X) → slice_get (xs ++ y ∷ []) k ≡ Some x
    → ((k < length xs) × (slice_get xs k ≡ Some x)) ⊎ ((k ≡ length xs) × (y ≡ x))
get_pushed xs y k x at =
    elim (cases_lt k (length xs)) [
      | inl lt ↦ inl (lt, sym (get_left xs (y ∷ []) k lt) ∙ at)
      | inr ge ↦
          let within = slice_get_within (xs ++ y ∷ []) k x at in
          let here : k ≡ length xs = omega (arith, length-append xs (y ∷ [])) in
          let same : Some y ≡ Some x = sym (get_last xs y) ∙ (ap (λ n. slice_get (xs ++ y ∷ []) n) (sym here) ∙ at) in
          inr (here, cc)
    ]

reversed : (e : Event) (h : List Event) → reverse (e ∷ h) ≡ reverse h ++ e ∷ []
reversed e h = reverse-append (e ∷ []) h

pub placed : (h : List Event) (place : ℕ) (e : Event) → slice_get (reverse h) place ≡ Some e → StandsAt h place e
placed [] place e at = absurd (let bad : None ≡ Some e = at in cc)
placed (x ∷ h) place e at =
    elim (get_pushed (reverse h) x place e (ap (λ (xs : List Event). slice_get xs place) (sym (reversed x h)) ∙ at)) [
      | inl before ↦
          let there = placed h place e before.1 in
          record { later = x ∷ there.later; earlier = there.earlier; is = ap (λ (xs : List Event). x ∷ xs) there.is; count = there.count }
      | inr here ↦ record { later = []; earlier = h; is = ap (λ (y : Event). y ∷ h) here.1; count = sym (here.0 ∙ length-reverse h) }
    ]

stands_in : (later earlier : List Event) (e : Event) → slice_get (reverse (later ++ e ∷ earlier)) (length earlier) ≡ Some e
stands_in [] earlier e =
    ap (λ (xs : List Event). slice_get xs (length earlier)) (reversed e earlier)
    ∙ ap (slice_get (reverse earlier ++ e ∷ [])) (sym (length-reverse earlier))
    ∙ get_last (reverse earlier) e
stands_in (x ∷ later) earlier e =
    let before = stands_in later earlier e in
    ap (λ (xs : List Event). slice_get xs (length earlier)) (reversed x (later ++ e ∷ earlier))
    ∙ get_left (reverse (later ++ e ∷ earlier)) (x ∷ []) (length earlier) (slice_get_within _ _ e before)
    ∙ before

pub stands : (h : List Event) (place : ℕ) (e : Event) → StandsAt h place e → slice_get (reverse h) place ≡ Some e
stands h place e at =
    ap (λ (xs : List Event). slice_get (reverse xs) place) at.is
    ∙ ap (slice_get (reverse (at.later ++ e ∷ at.earlier))) (sym at.count)
    ∙ stands_in at.later at.earlier e

pub stays : (first h : List Event) (place : ℕ) (e : Event) → Begins first h → StandsAt first place e → StandsAt h place e
stays first h place e begins at = record {
  later = begins.later ++ at.later;
  earlier = at.earlier;
  is = begins.is ∙ ap (λ (xs : List Event). begins.later ++ xs) at.is ∙ sym (append_assoc begins.later at.later (e ∷ at.earlier));
  count = at.count;
}

pub starts : (first h : List Event) → Begins first h → StartsWith (reverse first) (reverse h)
starts first h begins = record { rest = reverse begins.later; is = ap reverse begins.is ∙ reverse-append begins.later first }

pub begins : (first h : List Event) → StartsWith (reverse first) (reverse h) → Begins first h
begins first h starts = record {
  later = reverse starts.rest;
  is = sym (reverse-reverse h) ∙ ap reverse starts.is ∙ reverse-append (reverse first) starts.rest ∙ ap (λ (xs : List Event). reverse starts.rest ++ xs) (reverse-reverse first);
}

-- what holds of each event behind those before it holds at each place
pub each_at : (P : List Event → Event → Type 0) (later earlier : List Event) (e : Event) → Each P (later ++ e ∷ earlier) → P earlier e
each_at P [] earlier e each = each.0
each_at P (x ∷ later) earlier e each = each_at P later earlier e each.1
