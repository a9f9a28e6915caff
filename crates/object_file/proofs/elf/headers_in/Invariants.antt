use Rattle.std.proofs.Common.{◌≡◌, ◌+◌, ◌-◌, ◌*◌, ◌++◌, length, map}
use Rattle.object_file.specs.Elf.{rows_in, header_in, headers_in}
use Rattle.object_file.proofs.elf.headers_in.Given as goal

abbrev pub invariant-entries : goal.invariant-entries
invariant-entries l = record {
  so_far : l.headers.items ++ map header_in (rows_in 64 (l.count - l.counter) l.rest) ≡ headers_in l.table;
  left : length l.rest + 64 * l.counter ≡ length l.table;
}
