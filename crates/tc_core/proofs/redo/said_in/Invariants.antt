use Rattle.std.proofs.Common.{◌≡◌, drop, reverse}
use Rattle.tc_core.specs.Joining.Scanning.{said_in}
use Rattle.tc_core.proofs.redo.said_in.Given as goal

abbrev pub invariant-loop-place : goal.invariant-loop-place
invariant-loop-place l = said_in (drop l.place (reverse l.log.events)) l.number ≡ said_in (drop l.from (reverse l.log.events)) l.number
