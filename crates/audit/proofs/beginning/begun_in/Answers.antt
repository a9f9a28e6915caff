use Rattle.std.proofs.Common.{[], ◌∷◌, arith, refl, ◌∙◌, ap}
use Rattle.tc_log.specs.Entered.{seen}
use Rattle.tc_core.proofs.FollowLemmas.{begins_none, begins_more}
use Rattle.audit.specs.Joining.Based.{begun_by}
use Rattle.audit.proofs.BeginningLemmas.{begun_next}
use Rattle.audit.proofs.beginning.begun_in.Goals as goal

pub loop-place-init : goal.loop-place-init
loop-place-init c = record { before = []; begins = begins_none c.args.log.now.events; places = refl; is = refl }

pub loop-place-preserved : goal.loop-place-preserved
loop-place-preserved c =
    let so = c.loop-place.invariant in
    let e = seen c.event_at.result in
    let places = so.places in
    record {
      before = e ∷ so.before;
      begins = begins_more c.args.log.now.events so.before c.loop-place.place e so.begins so.places c.event_at.ensures;
      places = omega (arith, places);
      is = c.begun_with-found.ensures ∙ (ap (begun_by e) so.is ∙ begun_next e so.before);
    }
