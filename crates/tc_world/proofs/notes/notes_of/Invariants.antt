use Rattle.std.proofs.Common.{◌≡◌, map, take}
use Rattle.tc_world.specs.Recovery.{note_of}
use Rattle.tc_world.proofs.notes.notes_of.Given as goal

abbrev pub invariant-loop-dc : goal.invariant-loop-dc
invariant-loop-dc l = l.notes.items ≡ map note_of (take l.dc l.state.sites)
