use Rattle.std.proofs.Common.{◌≡◌, drop}
use Rattle.std.specs.List.{find}
use Rattle.script_loading.specs.Loading.{reaches_past}
use Rattle.script_loading.proofs.loading.first_past.Given as goal

abbrev pub invariant-procedures : goal.invariant-procedures
invariant-procedures l = find (reaches_past l.dcs) (drop l.procedure-index l.procedures) ≡ find (reaches_past l.dcs) l.procedures
