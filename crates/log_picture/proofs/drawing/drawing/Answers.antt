use Rattle.std.proofs.Common.{rules, ◌+◌, ◌*◌}
use Rattle.std.specs.Prelude.{string_bytes}
use Rattle.log_picture.specs.Canvas.{sheet}
use Rattle.log_picture.proofs.Drawn.{svg_is}
use Rattle.log_picture.proofs.drawing.drawing.Goals as goal

pub returns : goal.returns
returns c =
    svg_is c.args.events.now c.args.from c.args.to c.args.count c.args.picture.now (sheet c.new-canvas.result) (64 + c.min.result * 22)
    c.max-width.result (64 + c.min.result * 22 + 60 + c.len.result * 16) c.new-canvas.ensures (search rules) (search rules) (search rules)
    (string_bytes c.in_ok-svg.svg) (string_bytes c.write_caption.new.svg) (string_bytes c.push_str.new.self) (string_bytes c.write_ticks.new.svg)
    (string_bytes c.write_tracks.new.svg) (string_bytes c.write_records.new.svg) c.in_ok-svg.ensures c.in_ok-write_caption.ensures
    (search rules) c.in_ok-write_ticks.ensures (search rules) c.in_ok-write_records.ensures
