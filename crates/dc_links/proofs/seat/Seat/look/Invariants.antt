use Rattle.dc_links.proofs.seat.Seat.look.Given as goal

abbrev pub invariant-loop : goal.invariant-loop
invariant-loop l = Unit {0}
