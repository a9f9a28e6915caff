use Rattle.std.proofs.Common.{◌≡◌, ◌<◌, ℕ, true, Some}
use Rattle.std.specs.Prelude.{slice_get}
use Rattle.tc_core.specs.Recovery.{reaches}
use Rattle.tc_core.specs.declared.recovery.SiteNote.{SiteNote}
use Rattle.tc_core.proofs.recovery.first_forgotten.Given as goal

abbrev pub invariant-loop-place : goal.invariant-loop-place
invariant-loop-place l = (d : ℕ) (note : SiteNote) → d < l.place → slice_get l.notes d ≡ Some note → reaches l.from note ≡ true
