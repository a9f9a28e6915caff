use Rattle.std.proofs.Common.{◌≡◌, drop}
use Rattle.access_slots.specs.Declaration.{first_bad}
use Rattle.access_slots.proofs.decl.first_bad.Given as goal

abbrev pub invariant-loop-place : goal.invariant-loop-place
invariant-loop-place l = first_bad l.args l.place (drop l.place l.slots) ≡ first_bad l.args 0 l.slots
