use Rattle.std.specs.Prelude.{◌≤◌, length}
use Rattle.program_files.proofs.reading.read_front.Given as goal

-- no more was read than is read at most
abbrev pub invariant-loop : goal.invariant-loop
invariant-loop g l = length l.bytes.items ≤ l.most
