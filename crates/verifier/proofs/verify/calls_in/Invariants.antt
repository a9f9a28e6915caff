use Rattle.std.proofs.Common.{◌≡◌, count_by, take}
use Rattle.verifier.specs.Calls.{is_call_place}
use Rattle.verifier.proofs.verify.calls_in.Given as goal

abbrev pub invariant-loop-place : goal.invariant-loop-place
invariant-loop-place l = l.calls ≡ count_by is_call_place (take l.place-index l.places)
