use Rattle.std.proofs.Common.{length}
use Rattle.data_component.specs.Sorted.{SortedRows}
use Rattle.data_component.proofs.rows.rise.Given as goal

abbrev pub invariant-rows : goal.invariant-rows
invariant-rows l = record {
  all : SortedRows l.rest → SortedRows l.rows;
  part : SortedRows l.rows → SortedRows l.rest;
}

abbrev pub decreases-rows : goal.decreases-rows
decreases-rows l = length l.rest
