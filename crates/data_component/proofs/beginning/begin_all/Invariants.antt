use Rattle.std.proofs.Common.{length}
use Rattle.data_component.proofs.BeginLemmas.{AreBegunTo}
use Rattle.data_component.proofs.beginning.begin_all.Given as goal

abbrev pub invariant-dcs : goal.invariant-dcs
invariant-dcs l = AreBegunTo l.rows l.rest l.mark l.dc l.fn.dcs l.dcs
