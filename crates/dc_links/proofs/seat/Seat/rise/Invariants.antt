use Rattle.std.proofs.Common.{◌≡◌}
use Rattle.dc_links.proofs.seat.Seat.rise.Given as goal

abbrev pub invariant-loop : goal.invariant-loop
invariant-loop g l = (l.pass.table_id ≡ l.initial.pass.table_id) × (l.pass.me ≡ l.initial.pass.me)
