use Rattle.std.proofs.Common.{◌≡◌, ℕ, ◌<◌, ◌≤◌, ◌+◌, ◌*◌, take, drop, length, reverse}
use Rattle.tc_log.specs.Reading.{IsPrinted, ArePrinted, record_at}
use Rattle.tc_log.proofs.Only.{AreSeen}
use Rattle.tc_log.proofs.read.events_in.Given as goal

abbrev pub invariant-records : goal.invariant-records
invariant-records l = record {
  rest : l.rest ≡ drop (96 * l.place) l.bytes;
  events : ArePrinted (reverse l.log.events) (take (96 * l.place) l.bytes);
  before : (earlier : ℕ) → earlier < l.place → IsPrinted (record_at earlier l.bytes);
  count : length (reverse l.log.events) ≡ l.place;
  seen : AreSeen (reverse l.log.events) (take (96 * l.place) l.bytes);
  room : l.count ≤ l.log.room + l.place;
}
