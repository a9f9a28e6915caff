use Rattle.audit.specs.Joining.Based.{HasBegun}
use Rattle.audit.proofs.beginning.begun_in.Given as goal

abbrev pub invariant-loop-place : goal.invariant-loop-place
invariant-loop-place l = HasBegun l.place l.log.events l.found
