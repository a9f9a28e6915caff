use Rattle.std.proofs.Common.{◌≡◌, List, None, Some, ap, sym, ◌∙◌}
use Rattle.std.specs.Prelude.{slice_get, reverse}
use Rattle.tc_log.specs.declared.event.Event.{Event}
use Rattle.tc_log.specs.Entered.{seen, seen_if}
use Rattle.tc_world.proofs.BeginningLemmas.{before_told}
use Rattle.tc_world.proofs.beginning.admitted_before.Goals as goal

pub returns-in-Some : goal.returns-in-Some
returns-in-Some c =
    let events = c.args.state.now.events in
    let there : Some (seen c.in-Some.event) ≡ slice_get (reverse events) 0 =
    sym (ap seen_if c.in-Some.is) ∙ (c.at.ensures ∙ ap (λ (h : List Event). slice_get (reverse h) 0) c.log.ensures) in
    c.stands_for.ensures ∙ before_told c.args.state.now.procs events (Some (seen c.in-Some.event)) c.known.ensures.legal there

pub returns-in-None : goal.returns-in-None
returns-in-None c =
    let events = c.args.state.now.events in
    let there : None ≡ slice_get (reverse events) 0 =
    sym (ap seen_if c.in-None.is) ∙ (c.at.ensures ∙ ap (λ (h : List Event). slice_get (reverse h) 0) c.log.ensures) in
    before_told c.args.state.now.procs events None c.known.ensures.legal there
