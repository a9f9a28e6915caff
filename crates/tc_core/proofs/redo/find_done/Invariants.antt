use Rattle.std.proofs.Common.{◌≡◌, drop, reverse}
use Rattle.tc_core.specs.Joining.Scanning.{scan}
use Rattle.tc_core.proofs.redo.find_done.Given as goal

abbrev pub invariant-loop-place : goal.invariant-loop-place
invariant-loop-place l = scan l.dc l.after (drop l.place (reverse l.log.events)) ≡ scan l.dc l.after (drop l.from (reverse l.log.events))
