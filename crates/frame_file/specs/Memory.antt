-- A file in memory as bytes.
use Rattle.std.specs.Prelude.{ℕ, List}
use Rattle.frame_file.specs.declared.memory.Memory.{Memory}

abbrev pub memory_bytes : Memory → List ℕ
memory_bytes m = m.bytes.items
