use Rattle.std.proofs.Common.{ℕ, ◌<◌}
use Rattle.transactions.specs.InFlight.{site_at}
use Rattle.tc_world.specs.Marks.{IsLow}
use Rattle.tc_world.proofs.written.are_sites_low.Given as goal

abbrev pub invariant-loop-dc : goal.invariant-loop-dc
invariant-loop-dc l = (d : ℕ) → d < l.dc → IsLow l.low_water (site_at l.state.sites d).redo
