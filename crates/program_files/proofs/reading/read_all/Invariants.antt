use Rattle.std.specs.Prelude.{◌≤◌, length}
use Rattle.std.specs.Io.KnownBytes.{Consumes}
use Rattle.program_files.proofs.reading.read_all.Given as goal

-- what was read is what is gone from the reader, and no more than is read at most
abbrev pub invariant-loop : goal.invariant-loop
invariant-loop g l = Consumes (g.R.Read.remaining l.fn.input) (g.R.Read.remaining l.input) l.bytes.items × (length l.bytes.items ≤ l.most)
