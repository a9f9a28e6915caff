use Rattle.std.proofs.Common.{ℕ, ◌+◌, List, arith, refl, sym, ◌∙◌, subst}
use Rattle.tc_core.specs.Core.{Asking}
use Rattle.tc_world.proofs.MadeAgain.{AreMade, none_made, all_made, one_made}
use Rattle.tc_world.proofs.resumed_requests.make_again.Goals as goal

pub loop-done-init : goal.loop-done-init
loop-done-init c = (
  subst (λ (k : ℕ). AreMade c.args.requests.now.items c.args.state.now.events k) (sym c.admitted_before-done.ensures)
      (none_made c.args.state.now.procs c.args.state.now.events c.args.requests.now.items c.known.ensures.legal c.requires.none),
  refl,
)

pub loop-done-preserved : goal.loop-done-preserved
loop-done-preserved c = (
  subst (λ (rs : List Asking). AreMade rs c.args.state.now.events (c.loop-done.done + 1)) (sym c.push.ensures.items)
      (one_made c.args.state.now.procs c.args.state.now.events c.loop-done.requests.items c.loop-done.done
      c.request_of.result c.known.ensures.legal c.loop-done.invariant.0 c.request_of.ensures),
  c.push.ensures.capacity ∙ c.loop-done.invariant.1,
)

pub returns : goal.returns
returns c =
    let all = c.admitted-done-end.ensures in
    let end = c.loop-done-test.false in
    all_made c.args.state.now.procs c.args.state.now.events c.loop-done.requests.items c.loop-done.done
    c.known.ensures.legal (omega (arith, all, end)) c.loop-done.invariant.0
