use Rattle.std.proofs.Common.{◌≡◌}
use Rattle.data_component.specs.Store.{restarted}
use Rattle.coming_back.proofs.RenewLemmas.{mapped}
use Rattle.coming_back.proofs.restarting.restart_all.Given as goal

abbrev pub invariant-loop-dc : goal.invariant-loop-dc
invariant-loop-dc l = l.dcs ≡ mapped restarted l.fn.dcs l.dc-index
