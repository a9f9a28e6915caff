use Rattle.std.proofs.Common.{◌≡◌, List, ◌∷◌, length, arith, sym, ◌∙◌, ap, subst}
use Rattle.tc_log.specs.declared.event.Event.{Event}
use Rattle.tc_log.specs.Entered.{seen}
use Rattle.history.specs.Places.{Begins}
use Rattle.verifier.specs.Checked.{Checked}
use Rattle.transactions.specs.Legal.{Allowed, Legal}
use Rattle.tc_core.specs.Core.{Core}
use Rattle.tc_core.specs.Loaded.{Loaded}
use Rattle.tc_core.specs.Joining.Follows.{AreUntold, IsUnlike}
use Rattle.tc_core.specs.declared.checking.Unlike.{Unlike}
use Rattle.tc_core.proofs.FollowLemmas.{are_untold, begins_none, begins_more, first_illegal}
use Rattle.tc_core.proofs.RecoveryLemmas.{first_is}
use Rattle.tc_core.proofs.checking.replayed.Goals as goal

pub loop-place-init : goal.loop-place-init
loop-place-init c = (
  ap (λ (l : Loaded). l.codes) c.in-Ok-over.ensures.procs ∙ c.in-Ok.ensures.codes,
  subst (λ (xs : List Event). Begins xs c.args.log.now.events) (sym c.in-Ok-over.ensures.events) (begins_none c.args.log.now.events),
  ap (length {A = Event}) c.in-Ok-over.ensures.events,
  subst AreUntold (sym c.in-Ok-over.ensures.sites) (are_untold _),
  c.in-Ok-over.ensures.given_up,
)

pub loop-place-preserved : goal.loop-place-preserved
loop-place-preserved c =
    let whole = c.args.log.now.events in
    let h = c.loop-place.state.events in
    let e = seen c.event_at.result in
    let follows = c.in-Ok-follow.ensures.follows in
    let rest = c.follow.ensures.rest in
    let longer : length c.follow.new.self.events ≡ length (e ∷ h) = ap (length {A = Event}) follows in
    let before = c.loop-place.invariant.2 in (
      ap (λ (x : Core). x.procs) rest ∙ c.loop-place.invariant.0,
      subst (λ (xs : List Event). Begins xs whole) (sym follows) (begins_more whole h c.loop-place.place e c.loop-place.invariant.1 before c.event_at.ensures),
      omega (arith, longer, before),
      subst AreUntold (sym (ap (λ (x : Core). x.sites) rest)) c.loop-place.invariant.3,
      ap (λ (x : Core). x.given_up) rest ∙ c.loop-place.invariant.4,
    )

pub returns-in-Err-Illegal-clause-fault : goal.returns-in-Err-Illegal-clause-fault
returns-in-Err-Illegal-clause-fault c =
    let ps = c.args.procs.now.codes in
    let h = c.loop-place.state.events in
    let e = seen c.event_at.result in
    let why = subst (λ (u : Unlike). IsUnlike c.loop-place.state.procs h e u) c.in-Err-Illegal.field-0-is c.in-Err-Illegal.ensures.why in
    let illegal : Allowed ps h e → ⊥ = subst (λ (xs : List Checked). Allowed xs h e → ⊥) c.loop-place.invariant.0 why in
    let legal = subst (λ (xs : List Checked). Legal xs h) c.loop-place.invariant.0 c.known.ensures.legal in
    first_illegal ps c.args.log.now.events h c.loop-place.place e c.loop-place.invariant.1 c.loop-place.invariant.2 c.event_at.ensures legal illegal

pub returns-clause-log : goal.returns-clause-log
returns-clause-log c =
    let count = c.loop-place.invariant.2 in
    let end = c.loop-place-test.false in
    first_is c.args.log.now.events c.loop-place.state.events c.args.events c.loop-place.invariant.1 (omega (arith, count, end))
