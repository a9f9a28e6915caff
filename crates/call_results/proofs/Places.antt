-- A log's first events.
use Rattle.std.proofs.Common.{◌≡◌, ℕ, ◌+◌, ◌<◌, List, [], ◌∷◌, ◌++◌, length, Option, Some, None, arith, refl, sym, ◌∙◌, ap, subst, append_assoc}
use Rattle.std.proofs.lemmas.List.{append-nil}
use Rattle.tc_log.specs.declared.event.Event.{Event}
use Rattle.tc_log.specs.declared.event.Event.TheVariants.{Admit}
use Rattle.verifier.specs.Checked.{Checked}
use Rattle.history.specs.Places.{StandsAt, Begins}
use Rattle.transactions.specs.Legal.{Legal}
use Rattle.transactions.specs.Standing.{standing}
use Rattle.transactions.proofs.StandingLemmas.{standing-above}
use Rattle.tc_core.specs.Recovery.{first_events}
use Rattle.tc_core.proofs.RecoveryLemmas.{first_is}
use Rattle.call_results.specs.Joining.Along.{IsAdmission}

legal_first : (ps : List Checked) (later first : List Event) → Legal ps (later ++ first) → Legal ps first
legal_first ps [] first legal = legal
legal_first ps (e ∷ later) first legal = legal_first ps later first legal.1

-- before the event at a place, and behind it
before_it : (h : List Event) (place : ℕ) (e : Event) (at : StandsAt h place e) → first_events place h ≡ at.earlier
before_it h place e at =
    sym (first_is h at.earlier place (record { later = at.later ++ e ∷ []; is = at.is ∙ sym (append_assoc at.later (e ∷ []) at.earlier) }) at.count)

pub one_further : (h : List Event) (place : ℕ) (e : Event) → StandsAt h place e → first_events (place + 1) h ≡ e ∷ first_events place h
one_further h place e at =
    let count : length (e ∷ at.earlier) ≡ place + 1 = (let n = at.count in omega (arith, n)) in
    sym (first_is h (e ∷ at.earlier) (place + 1) (record { later = at.later; is = at.is }) count) ∙ ap (λ (xs : List Event). e ∷ xs) (sym (before_it h place e at))

pub legal_at : (ps : List Checked) (h : List Event) (place : ℕ) (e : Event) → StandsAt h place e → Legal ps h → Legal ps (e ∷ first_events place h)
legal_at ps h place e at legal =
    rw (before_it h place e at) (legal_first ps at.later (e ∷ at.earlier) (subst (Legal ps) at.is legal))

pub none_before : (h : List Event) (t : ℕ) → standing (first_events 0 h) t ≡ None
none_before h t = ap (λ (xs : List Event). standing xs t) (sym (first_is h [] 0 (record { later = h; is = sym (append-nil h) }) refl))

-- up to its admission a transaction wasn't open
pub before_admission : (ps : List Checked) (h : List Event) (place : ℕ) (e : Event) (t : ℕ) → StandsAt h place e → IsAdmission e t → Legal ps h
    → standing (first_events place h) t ≡ None
before_admission ps h place e t at admits legal = by e (legal_at ps h place e at legal) admits
  where
    by : (x : Event) → Legal ps (x ∷ first_events place h) → IsAdmission x t → standing (first_events place h) t ≡ None
    by (Admit u p args) legal' same =
        standing-above ps (first_events place h) legal'.1 t (let next = legal'.0.next in omega (arith, next, same))
    by _ legal' admits = absurd admits
