-- Where things stand on a drawing, in pixels, and its shapes in SVG.
use Rattle.std.specs.Prelude.{ℕ, ◌+◌, ◌-◌, ◌*◌, ◌/◌, min, max, List, ◌++◌, Option, Some, None, codes, decimal}
use Rattle.log_picture.specs.declared.canvas.Canvas.{Canvas}
use Rattle.log_picture.specs.declared.shapes.Span.{Span}
use Rattle.log_picture.specs.declared.shapes.Bar.{Bar}

-- events from a place up to another, and how wide one of them is
pub record Sheet : Type 0 where
  pub from : ℕ
  pub to : ℕ
  pub step : ℕ

abbrev pub sheet : Canvas → Sheet
sheet c = record { from = c.from; to = c.to; step = c.step }

-- how wide an event is, where so many are drawn
abbrev pub step_of : ℕ → ℕ
step_of shown = min (max (1200 / max shown 1) 4) 40

abbrev pub sheet_from : ℕ → ℕ → Sheet
sheet_from from to = record { from = from; to = to; step = step_of (to - from) }

-- where the event at this place begins, or the edge beyond which it is
abbrev pub x_of : Sheet → ℕ → ℕ
x_of c place = 130 + (min (max place c.from) c.to - c.from) * c.step

abbrev pub right_of : Sheet → Option ℕ → ℕ
right_of c None = x_of c c.to
right_of c (Some end) = x_of c end + c.step

-- where what begins at a place begins, and how wide it is: as far as the event that ends it, or the drawing, but for a
-- pixel between it and the next
abbrev pub span_of : Sheet → ℕ → Option ℕ → Span
span_of c begin end = record { left = x_of c begin; width = right_of c end - (x_of c begin + 1) }

-- ---- texts

unfoldable pub place_text : List ℕ → ℕ → ℕ → List ℕ
place_text class x y =
    codes "<rect class='" ++ (class ++ (codes "' x='" ++ (decimal x ++ (codes "' y='" ++ (decimal y ++ codes "'")))))

unfoldable pub size_text : ℕ → ℕ → List ℕ → List ℕ
size_text width height title =
    codes " width='" ++ (decimal width ++ (codes "' height='" ++ (decimal height
    ++ (codes "'><title>" ++ (title ++ codes "</title></rect>\n")))))

-- a bar, and what is said of it under the pointer
unfoldable pub shape_text : List ℕ → Span → ℕ → ℕ → List ℕ → List ℕ
shape_text class span y height title = place_text class span.left y ++ size_text span.width height title

abbrev pub bar_text : Bar → List ℕ
bar_text b = shape_text b.class.now b.span b.y b.height b.title.now

unfoldable pub label_text : ℕ → ℕ → List ℕ → List ℕ
label_text x y text =
    codes "<text x='" ++ (decimal x ++ (codes "' y='" ++ (decimal y ++ (codes "'>" ++ (text ++ codes "</text>\n")))))
