-- Engines of which examples speak.
use Rattle.std.specs.Prelude.{ℕ, [], None, replicate}
use Rattle.tc_core.specs.declared.recovery.SiteNote.TheVariants.{Untold}
use Rattle.log_file.specs.declared.header.Header.{Header}
use Rattle.log_file.specs.Bytes.{Batch}
use Rattle.tc_world.specs.Ahead.{Written}
use Rattle.tc_world.specs.Examples.{empty_world}
use Rattle.engine_recovery.specs.Telling.{Contents}
use Rattle.engine_recovery.specs.Engine.{Engine}

-- a file with a header alone
abbrev pub header_alone : Contents
header_alone = record { base = None; batches = [] }

abbrev pub nothing_written : Header → Written
nothing_written h = record { events = []; notes = replicate h.dcs Untold }

-- the engine that has just made this file, with data components of these limits: nothing has happened
abbrev pub begun : Header → ℕ → ℕ → Engine
begun h rows ops = record { file = header_alone; written = nothing_written h; world = empty_world h.dcs rows ops }

-- a batch without notes and rows
abbrev pub no_news : Batch
no_news = record { notes = []; rows = [] }
