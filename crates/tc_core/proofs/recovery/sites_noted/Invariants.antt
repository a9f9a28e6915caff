use Rattle.std.proofs.Common.{◌≡◌, map, take}
use Rattle.tc_core.specs.Recovery.{site_noted}
use Rattle.tc_core.proofs.recovery.sites_noted.Given as goal

abbrev pub invariant-loop-note : goal.invariant-loop-note
invariant-loop-note l = l.sites.items ≡ map site_noted (take l.note-index l.notes)
