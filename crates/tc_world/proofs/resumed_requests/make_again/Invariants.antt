use Rattle.std.proofs.Common.{◌≡◌, vec_capacity}
use Rattle.tc_world.proofs.MadeAgain.{AreMade}
use Rattle.tc_world.proofs.resumed_requests.make_again.Given as goal

abbrev pub invariant-loop-done : goal.invariant-loop-done
invariant-loop-done l = AreMade l.requests.items l.state.events l.done × (vec_capacity l.requests ≡ vec_capacity l.fn.requests)
