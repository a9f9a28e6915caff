use Rattle.std.specs.List.{All}
use Rattle.tc_log.specs.declared.event.Event.{Event}
use Rattle.verifier.specs.Checked.{Checked}
use Rattle.transactions.specs.Legal.{Legal}
use Rattle.serial.specs.Audit.{IsBegunTogether}
use Rattle.tc_world.specs.OneAtATime.{EachIsKnown}
use Rattle.coming_back.specs.Done.{EachHasWhatWasDone}
use Rattle.coming_back.specs.Faults.{HasLog}
use Rattle.coming_back.specs.Joining.Quiet.{IsQuiet}
use Rattle.coming_back.proofs.QuietLemmas.{quiet_at_first}
use Rattle.transactions.specs.Reached.{AllGood}
use Rattle.tc_world.specs.Whole.{Whole}
use Rattle.coming_back.specs.Coming.{HasOnlyRows, at_rest, begins_again, IsOfRows}
use Rattle.coming_back.specs.Serving.{IsFor}
use Rattle.tc_world.proofs.LivingLemmas.{Sound, living_serial, living_agreed, becomes_same, becomes_lived, becomes_sound, becomes_low, sound_serial, sound_agreed}
use Rattle.coming_back.proofs.ServingLemmas.{all_then, all_served}
use Rattle.coming_back.proofs.ComingLemmas.{begun_sound, begun_marks, known_still, goes_begins, goes_loaded}
use Rattle.std.proofs.Common.{◌≡◌, map, List, sym, ap, subst}
use Rattle.data_component.specs.Store.{Store, restarted}
use Rattle.tc_core.specs.Core.{Core}
use Rattle.tc_world.specs.Lives.{Becomes}
use Rattle.coming_back.specs.Joining.Moving.{Goes}
use Rattle.coming_back.proofs.coming.come_back.Goals as goal

pub returns-clause-begins : goal.returns-clause-begins
returns-clause-begins c =
    goes_begins c.args.state.now c.bring_back.new.state c.resume_all.new.state c.args.log.now.events c.bring_back.new.dcs c.resume_all.new.dcs
    c.in_ok-bring_back.ensures.log c.resume_all.ensures.goes

pub returns-clause-same : goal.returns-clause-same
returns-clause-same c =
    goes_loaded c.args.state.now c.bring_back.new.state c.resume_all.new.state c.args.log.now.events c.bring_back.new.dcs c.resume_all.new.dcs
    c.in_ok-bring_back.ensures.log c.resume_all.ensures.goes

pub returns-clause-known : goal.returns-clause-known
returns-clause-known c =
    known_still c.bring_back.new.state c.resume_all.new.state c.bring_back.new.dcs c.resume_all.new.dcs
    c.resume_all.ensures.goes c.in_ok-bring_back.ensures.known

pub returns-clause-served : goal.returns-clause-served
returns-clause-served c =
    let empties = map restarted c.args.dcs.now in
    all_then IsFor empties c.bring_back.new.dcs c.resume_all.new.dcs (all_served empties c.bring_back.new.dcs c.in_ok-bring_back.ensures.redone)
    c.resume_all.ensures.goes.served

went_on : (c d : Core) (ds es : List Store) → Goes c ds d es → Becomes (at_rest c ds) (at_rest d es)
went_on c d ds es goes = goes.lived (at_rest c ds) (becomes_same (at_rest c ds))

pub returns-clause-lived : goal.returns-clause-lived
returns-clause-lived c = λ w from.
    becomes_lived (at_rest c.bring_back.new.state c.bring_back.new.dcs) (at_rest c.resume_all.new.state c.resume_all.new.dcs)
    (went_on c.bring_back.new.state c.resume_all.new.state c.bring_back.new.dcs c.resume_all.new.dcs
    c.resume_all.ensures.goes) (c.in_ok-bring_back.ensures.lived w from)

pub returns-clause-one_at_a_time : goal.returns-clause-one_at_a_time
returns-clause-one_at_a_time c = λ w from. living_serial (at_rest c.resume_all.new.state c.resume_all.new.dcs) (returns-clause-lived c w from)

pub returns-clause-agreed : goal.returns-clause-agreed
returns-clause-agreed c = λ w from. living_agreed (at_rest c.resume_all.new.state c.resume_all.new.dcs) (returns-clause-lived c w from) (returns-clause-known c)

pub returns-clause-becomes : goal.returns-clause-becomes
returns-clause-becomes c =
    c.resume_all.ensures.goes.lived (begins_again c.args.state.now c.args.log.now.events c.args.dcs.now) c.in_ok-bring_back.ensures.becomes

came_sound : (old : Core) (h : List Event) (ds : List Store) (v : Whole) → AllGood old.procs → Legal old.procs h → IsOfRows h ds → All HasOnlyRows ds
    → Becomes (begins_again old h ds) v → Sound v
came_sound old h ds v good legal of_rows only b = becomes_sound (begins_again old h ds) v b (begun_sound old h ds good legal of_rows only)

pub returns-clause-serial : goal.returns-clause-serial
returns-clause-serial c = λ of_rows.
    sound_serial (at_rest c.resume_all.new.state c.resume_all.new.dcs)
    (came_sound c.args.state.now c.args.log.now.events c.args.dcs.now (at_rest c.resume_all.new.state c.resume_all.new.dcs)
    c.known.ensures.good c.in_ok-bring_back.ensures.legal of_rows c.requires (returns-clause-becomes c))

pub returns-clause-audited : goal.returns-clause-audited
returns-clause-audited c = λ of_rows.
    sound_agreed (at_rest c.resume_all.new.state c.resume_all.new.dcs)
    (came_sound c.args.state.now c.args.log.now.events c.args.dcs.now (at_rest c.resume_all.new.state c.resume_all.new.dcs)
    c.known.ensures.good c.in_ok-bring_back.ensures.legal of_rows c.requires (returns-clause-becomes c))
    (returns-clause-known c)

quiet : (old c : Core) (h : List Event) (ds es : List Store) → Legal old.procs h → HasLog old h c → IsBegunTogether h ds → All HasOnlyRows ds
    → Becomes (begins_again old h ds) (at_rest c es) → EachIsKnown (at_rest c es) → EachHasWhatWasDone h es → IsQuiet c es
quiet old c h ds es legal log together only became known done =
    let events : c.events ≡ h = ap (λ (x : Core). x.events) log in
    let legal' : Legal c.procs c.events =
    subst (λ (ps : List Checked). Legal ps c.events) (sym (ap (λ (x : Core). x.procs) log)) (subst (Legal old.procs) (sym events) legal) in
    quiet_at_first c es legal' (ap (λ (x : Core). x.given_up) log) known
    (becomes_low (begins_again old h ds) (at_rest c es) became legal (begun_marks old h ds legal together only))
    (subst (λ (g : List Event). EachHasWhatWasDone g es) (sym events) done)

pub returns-clause-full : goal.returns-clause-full
returns-clause-full c = λ together.
    let b = c.in_ok-bring_back.ensures in
    (c.resume_all.ensures.goes.quiet
    (quiet c.args.state.now c.bring_back.new.state c.args.log.now.events c.args.dcs.now c.bring_back.new.dcs b.legal
    b.log together c.requires b.becomes b.known b.done)).full
