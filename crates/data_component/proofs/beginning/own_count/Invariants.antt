use Rattle.std.proofs.Common.{◌≡◌, take}
use Rattle.data_component.specs.Beginning.{AreOf}
use Rattle.data_component.proofs.beginning.own_count.Given as goal

abbrev pub invariant-rows : goal.invariant-rows
invariant-rows l = record {
  count : l.count ≡ l.row-index;
  own : AreOf l.dc (take l.row-index l.rows);
}
