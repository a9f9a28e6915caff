use Rattle.dc_links.proofs.Serving.{then_served}
use Rattle.dc_links.proofs.seat.perform_all.Goals as goal

pub loop-request-preserved : goal.loop-request-preserved
loop-request-preserved g c =
    then_served c.args.number c.args.dc.now c.loop-request.dc c.perform_request.new.dc c.loop-request.invariant c.perform_request.ensures
