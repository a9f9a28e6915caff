use Rattle.std.specs.Prelude.{string_bytes}
use Rattle.log_picture.specs.Canvas.{sheet}
use Rattle.log_picture.specs.Drawing.{ticks_text, tick_at}
use Rattle.std.proofs.Common.{◌-◌, ◌++◌, refl}
use Rattle.log_picture.proofs.Drawn.{ticks_more}
use Rattle.log_picture.proofs.drawing.write_ticks.Goals as goal

pub places-preserved : goal.places-preserved
places-preserved c =
    let canvas = c.args.canvas.now in
    ticks_more (string_bytes c.args.svg.now ++ ticks_text (sheet canvas) c.args.height canvas.from (canvas.to - canvas.from))
    (string_bytes c.places.svg) (string_bytes c.write_tick.new.svg) (tick_at (sheet canvas) c.args.height c.places.place) (sheet canvas)
    c.args.height c.places.place canvas.to c.places-test.true c.places.invariant c.in_ok-write_tick.ensures refl
