use Rattle.std.proofs.Common.{◌≡◌, ◌++◌, ◌+◌, ◌-◌, ◌*◌, take, drop}
use Rattle.std.specs.Prelude.{string_bytes}
use Rattle.std.specs.List.{flat_map}
use Rattle.log_picture.specs.Canvas.{sheet}
use Rattle.log_picture.specs.Drawing.{use_of}
use Rattle.log_picture.proofs.drawing.write_uses.Given as goal

abbrev pub invariant-tracks : goal.invariant-tracks
invariant-tracks l = string_bytes l.svg ≡ string_bytes l.initial.svg ++ flat_map (use_of (sheet l.canvas) l.y l.name l.row.«record») (take l.track-index l.tracks)
