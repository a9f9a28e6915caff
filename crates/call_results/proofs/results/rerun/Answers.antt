use Rattle.std.proofs.Common.{◌≡◌, ℕ, ◌+◌, List, ◌∷◌, arith, sym, ◌∙◌, ap, subst}
use Rattle.tc_log.specs.Entered.{seen}
use Rattle.tc_log.specs.declared.event.Event.{Event}
use Rattle.transactions.specs.Standing.{standing}
use Rattle.tc_core.specs.Recovery.{first_events}
use Rattle.call_results.specs.Joining.Along.{Follows, MayFollow}
use Rattle.call_results.proofs.Places.{one_further, legal_at}
use Rattle.call_results.proofs.results.rerun.Goals as goal

pub loop-place-init : goal.loop-place-init
loop-place-init c = (
  subst (Follows c.args.procs.now.codes c.new-run.result) (sym (c.place_before-place.ensures.before c.args.procs.now.codes c.requires.legal)) c.new-run.ensures.open,
  c.new-run.ensures.slot,
)

pub follow-requires : goal.follow-requires
follow-requires c =
    let h = c.args.log.now.events in (
      first_events c.loop-place.place h,
      record {
        good = c.known.ensures.good;
        legal = legal_at c.args.procs.now.codes h c.loop-place.place (seen c.event_at.result) c.event_at.ensures c.requires.legal;
        follows = c.loop-place.invariant.0;
      },
    )

pub loop-place-preserved : goal.loop-place-preserved
loop-place-preserved c =
    let h = c.args.log.now.events in
    let ps = c.args.procs.now.codes in
    let k = c.loop-place.place in
    let e = seen c.event_at.result in
    let may : MayFollow ps c.loop-place.run (first_events k h) e c.args.txn = record {
      good = c.known.ensures.good;
      legal = legal_at ps h k e c.event_at.ensures c.requires.legal;
      follows = c.loop-place.invariant.0;
    } in (
      subst (λ (x : List Event). Follows ps c.follow.new.self (standing x c.args.txn)) (sym (one_further h k e c.event_at.ensures))
          (c.follow.ensures.follows (first_events k h) may),
      c.follow.ensures.slot ∙ c.loop-place.invariant.1,
    )

pub returns-clause-follows : goal.returns-clause-follows
returns-clause-follows c =
    let same : c.loop-place.place ≡ c.args.end = omega (arith, c.loop-place-test.false, c.place_before-place.ensures.inside) in
    subst (λ (n : ℕ). Follows c.args.procs.now.codes c.loop-place.run (standing (first_events n c.args.log.now.events) c.args.txn)) same
    c.loop-place.invariant.0
