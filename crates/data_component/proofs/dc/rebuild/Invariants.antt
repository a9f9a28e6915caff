use Rattle.std.proofs.Common.{◌≡◌, ◌+◌, ◌≤◌, length, take, vec_capacity}
use Rattle.std.specs.Prelude.{reverse}
use Rattle.data_component.specs.Keeping.{AreRowsOf, AreKept}
use Rattle.data_component.proofs.dc.rebuild.Given as goal

abbrev pub invariant-performed : goal.invariant-performed
invariant-performed l = record {
  rows : AreRowsOf l.rows.items l.base (reverse (take l.place l.performed.items));
  fits : length l.rows.items ≤ length l.base + l.place;
  kept : AreKept l.kept.items l.mark (take l.place l.performed.items);
  rows_room : vec_capacity l.fn.rows ≤ vec_capacity l.rows;
  kept_room : vec_capacity l.kept ≡ vec_capacity l.fn.kept;
}
