use Rattle.std.proofs.Common.{length}
use Rattle.log_file.specs.Reading.{AreRows, RiseFrom}
use Rattle.log_file.proofs.base.rise_from.Given as goal

abbrev pub invariant-rows : goal.invariant-rows
invariant-rows l = record {
  all : RiseFrom l.last.0 l.rest → RiseFrom l.first.0 l.rows;
  part : RiseFrom l.first.0 l.rows → RiseFrom l.last.0 l.rest;
  numbers : AreRows l.rest → AreRows l.rows;
  each : AreRows l.rows → AreRows l.rest;
}

abbrev pub decreases-rows : goal.decreases-rows
decreases-rows l = length l.rest
