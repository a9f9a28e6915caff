use Rattle.std.proofs.Common.{◌≡◌, ◌++◌, ◌+◌, ◌-◌, ◌*◌, take, drop}
use Rattle.std.specs.Prelude.{string_bytes}
use Rattle.std.specs.List.{flat_map}
use Rattle.log_picture.specs.Canvas.{sheet}
use Rattle.log_picture.specs.Drawing.{way_bar}
use Rattle.log_picture.proofs.drawing.write_ways.Given as goal

abbrev pub invariant-ways : goal.invariant-ways
invariant-ways l = string_bytes l.svg ≡ string_bytes l.initial.svg ++ flat_map (way_bar (sheet l.canvas) l.y) (take l.way-index l.ways)
