use Rattle.std.proofs.Common.{◌≡◌, length, take}
use Rattle.frame_file.specs.Reading.{payloads_in}
use Rattle.log_file.specs.Joining.Fields.{AreGathered}
use Rattle.log_file.proofs.gathering.gather.Given as goal

abbrev pub invariant-batches : goal.invariant-batches
invariant-batches l = record {
  gathered : AreGathered l.dcs (payloads_in (take l.place l.payloads)) l.known.items l.rows.items;
  len : length l.known.items ≡ l.dcs;
}
