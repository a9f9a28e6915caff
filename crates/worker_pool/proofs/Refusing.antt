-- Why a call isn't admitted, told of the state that was handed in.
use Rattle.std.proofs.Common.{◌≡◌, ℕ, zero, suc, ◌+◌, ◌*◌, ◌^◌, ◌<◌, ◌≤◌, true, List, [], ◌∷◌}
use Rattle.std.proofs.Common.{length, Option, Some, None, refl, sym, ◌∙◌, ap, subst, inl, inr, arith}
use Rattle.std.specs.List.{slice_get}
use Rattle.std.proofs.lemmas.List.Sums.{count_by-le-length}
use Rattle.std.proofs.lemmas.Bool.{cases_eq}
use Rattle.access_slots.specs.Held.{excludes}
use Rattle.access_slots.specs.declared.slot.Mode.{Mode}
use Rattle.tc_log.specs.declared.event.Event.{Event}
use Rattle.tc_log.specs.declared.event.Event.TheVariants.{Admit, End}
use Rattle.history.specs.Calls.{Call, admitted, open_call, locks_of, held_for}
use Rattle.history.specs.Flight.{given}
use Rattle.history.specs.Places.{StandsAt, Begins}
use Rattle.lock_table.specs.declared.table.Busy.{Busy}
use Rattle.verifier.specs.Checked.{Checked}
use Rattle.verifier.specs.Calls.{is_call_place}
use Rattle.transactions.specs.Standing.{Standing, standing}
use Rattle.transactions.specs.Reached.{IsGood, AllGood, calls_by, calls_in, decls}
use Rattle.transactions.specs.Room.{numbers_left, weighed, total_to, total}
use Rattle.tc_core.specs.Core.{Core}
use Rattle.tc_core.specs.Admission.{IsCalled, Takes, IsRefused, needed}
use Rattle.tc_core.specs.declared.state.Refusal.{Refusal}
use Rattle.tc_core.specs.declared.state.Refusal.TheVariants as refusal
use Rattle.transactions.proofs.StandingLemmas.{eq-true, eq-false, some_same}
use Rattle.tc_core.specs.Blocked as stranded
use Rattle.worker_pool.specs.declared.answer.Answer.TheVariants.{Blocked, Refused}
use Rattle.worker_pool.specs.Answers.{StaysBut, AdmitRefusalFits, AnswerFits}
use Rattle.worker_pool.specs.Joining.Untried.{IsUntried}
use Rattle.worker_pool.proofs.GivenUp.{begin_same}
use Rattle.worker_pool.proofs.Placed.{stands_more, stands_here}

takes_start : (start c : Core) (call : Call) → c.procs ≡ start.procs → Takes c call → Takes start call
takes_start start c call same t = record { q = t.q; is = subst (λ (ps : List Checked). IsCalled ps call t.q) same t.is }

-- ---- a holder was admitted

record WasAdmitted (h : List Event) (t : ℕ) (call : Call) : Type 0 where
  place : ℕ
  at : StandsAt h place (Admit t call.proc call.args)

later_admitted : (h : List Event) (e : Event) (t : ℕ) (call : Call) → WasAdmitted h t call → WasAdmitted (e ∷ h) t call
later_admitted h e t call was = record { place = was.place; at = stands_more h e was.place (Admit t call.proc call.args) was.at }

open_admitted : (h : List Event) (t : ℕ) (call : Call) → open_call h t ≡ Some call → WasAdmitted h t call
open_admitted [] t call is = absurd (let bad : None ≡ Some call = is in cc)
open_admitted (Admit u p args ∷ h) t call is =
    elim (cases_eq u t) [
      | inl own ↦
          let same : record { proc = p; args = args } ≡ call = some_same _ call (rw (eq-true u t own) at is) in
          subst (λ (c : Call). WasAdmitted (Admit u p args ∷ h) t c) same
          (subst (λ (v : ℕ). WasAdmitted (Admit u p args ∷ h) v (record { proc = p; args = args })) own
          (record { place = length h; at = stands_here h (Admit u p args) }))
      | inr other ↦ later_admitted h (Admit u p args) t call (open_admitted h t call (rw (eq-false u t other) at is))
    ]
open_admitted (End u o ∷ h) t call is =
    elim (cases_eq u t) [
      | inl own ↦ absurd (let bad : None ≡ Some call = rw (eq-true u t own) at is in cc)
      | inr other ↦ later_admitted h (End u o) t call (open_admitted h t call (rw (eq-false u t other) at is))
    ]
open_admitted (e ∷ h) t call is = later_admitted h e t call (open_admitted h t call is)

no_exclude : (wanted : Option Mode) → excludes wanted None ≡ true → ⊥
no_exclude None is = cc
no_exclude (Some m) is = cc

-- the call that a holder was admitted with, and where
record Holding (start c : Core) (call : Call) (b : Busy) : Type 0 where
  other : Call
  was : WasAdmitted c.events b.holder other
  excluded : excludes (locks_of (decls start.procs) call b.name) (locks_of (decls start.procs) other b.name) ≡ true

holding : (start c : Core) (call : Call) (b : Busy) (o : Option Call) → open_call c.events b.holder ≡ o
    → excludes (locks_of (decls start.procs) call b.name) (held_for (decls start.procs) o b.name) ≡ true → Holding start c call b
holding start c call b None is stands = absurd (no_exclude (locks_of (decls start.procs) call b.name) stands)
holding start c call b (Some other) is stands = record { other = other; was = open_admitted c.events b.holder other is; excluded = stands }

-- a call that isn't admitted, where all that stand in its way are in doubt or stuck
pub blocked_fits : (start c : Core) (call : Call) (b : Busy) → StaysBut start c → Begins start.events c.events
    → IsRefused c call (refusal.Busy b) → stranded.IsBlocked c call → AnswerFits start c call (Blocked b) None
blocked_fits start c call b stays begins it blocked =
    let same : c.procs ≡ start.procs = ap (λ (s : Core). s.procs) stays in
    let holder = holding start c call b (open_call c.events b.holder) refl
    (subst (λ (ps : List Checked). excludes (locks_of (decls ps) call b.name)
    (held_for (decls ps) (open_call c.events b.holder) b.name) ≡ true) same it.1.stands) in
    record {
      waits = refl;
      takes = takes_start start c call same it.0;
      then = c;
      moment = record { stays = stays; begins = begins; goes_on = record { later = []; is = refl }; given_up = begin_same c.given_up };
      blocked = blocked;
      first = it.1;
      other = holder.other;
      place = holder.was.place;
      admitted = holder.was.at;
      excluded = holder.excluded;
    }

-- ---- numbers

calls_few : (q : Checked) → IsGood q → calls_in q ≤ 4096
calls_few q good = omega (arith, count_by-le-length is_call_place q.code, good.short)

calls_by_few : (ps : List Checked) (p : ℕ) (o : Option Checked) → AllGood ps → slice_get ps p ≡ o → calls_by o ≤ 4096
calls_by_few ps p None good is = omega arith
calls_by_few ps p (Some q) good is = calls_few q (good p q is)

-- a transaction may be given five numbers for each of its slots
left_few : (ps : List Checked) (o : Option Standing) → AllGood ps → weighed (numbers_left ps) o ≤ 20480
left_few ps None good = omega arith
left_few ps (Some s) good = let few = calls_by_few ps s.call.proc (slice_get ps s.call.proc) good refl in omega arith

total_to_few : (ps : List Checked) (h : List Event) (n : ℕ) → AllGood ps → total_to (numbers_left ps) h n ≤ 20480 * n
total_to_few ps h zero good = omega arith
total_to_few ps h (suc n) good = omega (arith, total_to_few ps h n good, left_few ps (standing h (suc n)) good)

total_few : (ps : List Checked) (h : List Event) → AllGood ps → total (numbers_left ps) h ≤ 20480 * admitted h
unfolding total
total_few ps h good = total_to_few ps h (admitted h) good

too_many : (c : Core) (q : Checked) → AllGood c.procs → IsGood q → 2 ^ 62 < needed c q → 2 ^ 62 < given c.events + 20480 * admitted c.events + 20480
too_many c q good one many = (let few = calls_few q one in let all = total_few c.procs c.events good in omega arith)

pub refused : (start c : Core) (call : Call) (why : Refusal) → StaysBut start c → AllGood c.procs
    → IsRefused c call why → AdmitRefusalFits start c call why
refused start c call refusal.NoProcedure stays good it = ap (λ (s : Core). slice_get s.procs call.proc) (sym stays) ∙ it
refused start c call refusal.ArgumentCount stays good it = (it.0, ap (λ (s : Core). slice_get s.procs call.proc) (sym stays) ∙ it.1, it.2)
refused start c call (refusal.Busy b) stays good it = it
refused start c call refusal.NumbersSpent stays good it =
    let same : c.procs ≡ start.procs = ap (λ (s : Core). s.procs) stays in
    (takes_start start c call same it.0, too_many c it.0.q good (good call.proc it.0.q it.0.is.loaded) it.2)
refused start c call refusal.Memory stays good it = takes_start start c call (ap (λ (s : Core). s.procs) stays) it.takes

-- a call that isn't tried
pub untried_fits : (start c : Core) (call : Call) (why : Refusal) → StaysBut start c → IsUntried c.procs call why
    → AnswerFits start c call (Refused why) None
untried_fits start c call refusal.NoProcedure stays it = (refl, ap (λ (s : Core). slice_get s.procs call.proc) (sym stays) ∙ it)
untried_fits start c call refusal.ArgumentCount stays it =
    (refl, (it.0, ap (λ (s : Core). slice_get s.procs call.proc) (sym stays) ∙ it.1, it.2))
untried_fits start c call (refusal.Busy b) stays it = absurd it
untried_fits start c call refusal.NumbersSpent stays it = absurd it
untried_fits start c call refusal.Memory stays it =
    (refl, takes_start start c call (ap (λ (s : Core). s.procs) stays) (record { q = it.0; is = it.1 }))
