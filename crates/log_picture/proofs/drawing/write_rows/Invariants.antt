use Rattle.std.proofs.Common.{◌≡◌, ◌++◌, ◌+◌, ◌-◌, ◌*◌, take, drop}
use Rattle.std.specs.Prelude.{string_bytes}
use Rattle.std.specs.List.{flat_map}
use Rattle.log_picture.specs.Canvas.{sheet}
use Rattle.log_picture.specs.Drawing.{rows_text}
use Rattle.log_picture.proofs.drawing.write_rows.Given as goal

abbrev pub invariant-rows : goal.invariant-rows
invariant-rows l =
    string_bytes l.initial.svg ++ rows_text (sheet l.canvas) l.tracks l.top l.rows
    ≡ string_bytes l.svg ++ rows_text (sheet l.canvas) l.tracks (l.top + l.index * 16) (drop l.index l.rows)
