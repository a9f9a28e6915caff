use Rattle.std.proofs.Common.{◌≡◌, ◌++◌, drop}
use Rattle.script_loading.specs.Joining.Copies.{insns_in}
use Rattle.script_loading.proofs.copies.insns_at.Given as goal

abbrev pub invariant-loop-place : goal.invariant-loop-place
invariant-loop-place l = l.insns.items ++ insns_in (drop l.place-index l.places) ≡ insns_in l.places
