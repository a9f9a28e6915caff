use Rattle.std.specs.Prelude.{string_bytes}
use Rattle.program_files.proofs.Streaming.{if_ok_fault_line}
use Rattle.procd.proofs.program.fault_line.Goals as goal

pub returns : goal.returns
returns c = if_ok_fault_line string_bytes _ _ _ _ c.joined_line.ensures
