use Rattle.std.proofs.Common.{take}
use Rattle.run_log.specs.Anew.{AreAllRows}
use Rattle.run_log.proofs.anew.base_of.Given as goal

abbrev pub invariant-dcs : goal.invariant-dcs
invariant-dcs l = AreAllRows (take l.dc-index l.dcs) l.base.items
