use Rattle.std.proofs.Common.{◌≡◌, ◌≤◌, take}
use Rattle.base_records.specs.Beginning.{own_count}
use Rattle.base_records.proofs.beginning.own_count.Given as goal

abbrev pub invariant-rows : goal.invariant-rows
invariant-rows l = record {
  count : l.count ≡ own_count l.dc (take l.row-index l.base);
  few : l.count ≤ l.row-index;
}
