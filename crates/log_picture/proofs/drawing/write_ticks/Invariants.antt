use Rattle.std.proofs.Common.{◌≡◌, ◌++◌, ◌+◌, ◌-◌, ◌*◌, take, drop}
use Rattle.std.specs.Prelude.{string_bytes}
use Rattle.std.specs.List.{flat_map}
use Rattle.log_picture.specs.Canvas.{sheet}
use Rattle.log_picture.specs.Drawing.{ticks_text}
use Rattle.log_picture.proofs.drawing.write_ticks.Given as goal

abbrev pub invariant-places : goal.invariant-places
invariant-places l =
    string_bytes l.initial.svg ++ ticks_text (sheet l.canvas) l.height l.canvas.from (l.canvas.to - l.canvas.from)
    ≡ string_bytes l.svg ++ ticks_text (sheet l.canvas) l.height l.place (l.canvas.to - l.place)
