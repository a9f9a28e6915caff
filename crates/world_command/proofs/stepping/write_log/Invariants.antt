use Rattle.std.proofs.Common.{◌≡◌, ◌++◌, drop}
use Rattle.std.specs.Prelude.{string_bytes}
use Rattle.world_command.specs.Stepping.{log_from, log_lines}
use Rattle.world_command.proofs.stepping.write_log.Given as goal

abbrev pub invariant-bytes : goal.invariant-bytes
invariant-bytes l = string_bytes l.lines ++ log_from l.at (drop l.at l.bytes) ≡ string_bytes l.fn.lines ++ log_lines l.bytes
