use Rattle.dc_links.specs.Serving.{IsServed}
use Rattle.dc_links.proofs.seat.perform_all.Given as goal

abbrev pub invariant-loop-request : goal.invariant-loop-request
invariant-loop-request g l = IsServed l.number l.fn.dc l.dc
