use Rattle.std.proofs.Common.{◌≡◌, map, take}
use Rattle.script_loading.specs.Loading.{empty_store}
use Rattle.script_loading.proofs.loading.empty_dcs.Given as goal

abbrev pub invariant-loop-dc : goal.invariant-loop-dc
invariant-loop-dc l = l.made.items ≡ map empty_store (take l.dc-index l.dcs)
