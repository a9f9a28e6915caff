-- A file of the system, as its device shows it.
use Rattle.std.specs.Prelude.{ℕ, List}
use Rattle.disk_file.specs.declared.disk.DiskFile.{DiskFile}
use Rattle.disk_file.specs.Events.{written_by, MayLeave, pieces_in}

-- its bytes: what was read and written
abbrev pub disk_bytes : DiskFile → List ℕ
disk_bytes d = written_by d.calls

-- what a crash may leave
abbrev pub left_of : DiskFile → List ℕ → Type 0
left_of d c = MayLeave d.calls c

-- what was cut off, and is kept and synced in another file
abbrev pub kept_of : DiskFile → List ℕ
kept_of d = pieces_in d.kept.events
