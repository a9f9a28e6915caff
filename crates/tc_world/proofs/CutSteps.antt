-- The step that cuts a log: what it asks of data components, and what it leaves of a world's requests.
use Rattle.std.proofs.Common.{◌≡◌, ℕ, ◌+◌, ◌≤◌, List, [], ◌∷◌, Some, arith, refl, ◌∙◌, ap, subst}
use Rattle.std.specs.Prelude.{slice_get}
use Rattle.tc_log.specs.declared.event.Event.{Event}
use Rattle.verifier.specs.Checked.{Checked}
use Rattle.history.specs.Calls.{admitted}
use Rattle.history.specs.Flight.{given, low_water}
use Rattle.history.specs.Anew.{begun, anew}
use Rattle.history.proofs.Laws.{computed_is}
use Rattle.data_component.specs.Store.{Store}
use Rattle.transactions.specs.Legal.{Legal}
use Rattle.transactions.specs.Alike.{IsAtRest}
use Rattle.transactions.proofs.Alike.{begins_alike}
use Rattle.tc_core.specs.Core.{Core}
use Rattle.tc_core.specs.Checkpointing.{MayCheckpoint, checkpointed as cut_core}
use Rattle.tc_world.specs.Whole.{Whole}
use Rattle.tc_world.specs.Waiting.{asking_by, AreWaiting}
use Rattle.tc_core.specs.Core.{Asking}
use Rattle.tc_world.specs.Cutting.{kept_at, marks_from, kept_marks, AreForgotten}
use Rattle.tc_world.specs.Steps.{Cuts}
use Rattle.tc_world.specs.declared.step.Outcome.TheVariants as outcome
use Rattle.tc_world.proofs.CutLemmas.{each_kept, begun_behind}

-- each keeps at least the low-water mark
pub low_kept : (c : Core) (dcs : List Store) → MayCheckpoint c (marks_from (low_water c.events) c.sites 0 dcs) → (d : ℕ) (s : Store) → slice_get dcs d ≡ Some s
    → low_water c.events ≤ (kept_at (low_water c.events) c.sites d s).saved_mark
low_kept c dcs may d s at =
    let least = each_kept (given c.events) (low_water c.events) c.sites 0 dcs may.kept_all d s at in
    let few = (computed_is c.events).all.given_out in
    let place : 0 + d ≡ d = omega arith in
    subst (λ (i : ℕ). low_water c.events ≤ (kept_at (low_water c.events) c.sites i s).saved_mark) place (omega (arith, least, few))

-- no request is open, before and behind it
pub waiting_anew : (ps : List Checked) (h : List Event) (rs : List Asking) → Legal ps h → IsAtRest h → AreWaiting rs h → AreWaiting rs (anew h)
waiting_anew ps h rs legal rest w = record {
  each = λ n. w.each n ∙ ap (asking_by n) ((begins_alike ps h legal rest).flights n);
  once = w.once;
}

same_admitted : (h : List Event) → admitted (anew h) ≡ admitted h
same_admitted [] = refl
same_admitted (e ∷ h) = refl

-- behind it, how many were admitted and the number behind which the log begins
pub cuts_so : (w : Whole) (ds : List Store) (c : Core) (low many behind : ℕ) → c ≡ cut_core w.core
    → MayCheckpoint w.core (kept_marks w) → low ≡ low_water w.core.events
    → AreForgotten low c.sites w.dcs ds → many ≡ admitted c.events → behind ≡ begun c.events
    → Cuts w (outcome.Cut many behind) (record w { core = c; dcs = ds })
cuts_so w ds c low many behind is may low_is are many_is behind_is = record {
  may = may;
  outcome =
      let one : many ≡ admitted w.core.events = many_is ∙ (ap (λ (x : Core). admitted x.events) is ∙ same_admitted w.core.events) in
      let two : behind ≡ given w.core.events = behind_is ∙ (ap (λ (x : Core). begun x.events) is ∙ begun_behind w.core.events) in
      ap (λ (n : ℕ). outcome.Cut n behind) one ∙ ap (outcome.Cut (admitted w.core.events)) two;
  forgotten =
      subst (λ (n : ℕ). AreForgotten n w.core.sites w.dcs ds) low_is (subst (λ (x : Core). AreForgotten low x.sites w.dcs ds) is are);
  next = ap (λ (x : Core). let u : Whole = record w { core = x; dcs = ds } in u) is;
}
