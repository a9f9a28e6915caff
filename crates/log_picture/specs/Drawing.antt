-- A picture of a log in SVG.
use Rattle.std.specs.Prelude.{ℕ, zero, suc, ◌+◌, ◌-◌, ◌*◌, ◌%◌, ◌==◌, nat_lt, min, max, if◌then◌else◌}
use Rattle.std.specs.Prelude.{List, [], ◌∷◌, ◌++◌, length, Option, Some, None, option_map, codes, decimal}
use Rattle.std.specs.List.{flat_map}
use Rattle.access_slots.specs.declared.slot.Record.{Record}
use Rattle.access_slots.specs.declared.slot.Mode.{Mode}
use Rattle.tc_log.specs.declared.event.Event.{Event}
use Rattle.log_picture.specs.declared.drawing.TheConstants.{HEAD, LEGEND, RECORDS, FOOT}
use Rattle.log_picture.specs.declared.shapes.Span.{Span}
use Rattle.log_picture.specs.declared.life.Life.{Life}
use Rattle.log_picture.specs.declared.way.Way.{Way}
use Rattle.log_picture.specs.declared.busiest.RecordRow.{RecordRow}
use Rattle.log_picture.specs.declared.picture.Track.{Track}
use Rattle.log_picture.specs.declared.picture.Picture.{Picture}
use Rattle.log_picture.specs.Ways.{mode_of}
use Rattle.log_picture.specs.Canvas.{Sheet, sheet_from, x_of, span_of, shape_text, label_text}
use Rattle.log_picture.specs.Texts.{class_of, life_title, way_class, way_title, mode_class, use_title, record_text}

-- ---- transactions in lanes

-- a number, in the lane at this height
unfoldable pub way_bar : Sheet → ℕ → Way → List ℕ
way_bar c y way =
    shape_text (way_class way.undo) (span_of c way.begin (option_map (λ a. a.place) way.end)) (y + 11) 5 (way_title way)

-- a transaction's number, where its bar is wide enough
unfoldable pub name_text : Span → ℕ → ℕ → List ℕ
name_text span y txn =
    if nat_lt span.width 28 then []
    else codes "<text class='name' x='" ++ (decimal (span.left + 2) ++ (codes "' y='" ++ (decimal (y + 9)
    ++ (codes "'>" ++ (decimal txn ++ codes "</text>\n")))))

unfoldable pub life_bar : Sheet → List Event → ℕ → Life → List ℕ
life_bar c events y life =
    let span = span_of c life.begin (option_map (λ e. e.place) life.end) in
    shape_text (class_of life.end) span y 18 (life_title events life) ++ name_text span y life.txn

unfoldable pub track_text : Sheet → List Event → Track → List ℕ
track_text c events track =
    let y = 64 + track.lane * 22 in
    life_bar c events y track.life ++ flat_map (way_bar c y) track.ways.items

-- lanes beyond the first 200 aren't drawn
abbrev pub drawn_text : Sheet → List Event → Track → List ℕ
drawn_text c events track = if nat_lt track.lane 200 then track_text c events track else []

-- ---- records

unfoldable pub use_bar : Sheet → ℕ → List ℕ → Mode → Life → List ℕ
use_bar c y name m life =
    shape_text (mode_class m) (span_of c life.begin (option_map (λ e. e.place) life.end)) y 12 (use_title name m life)

abbrev pub use_by : Sheet → ℕ → List ℕ → Option Mode → Life → List ℕ
use_by c y name None life = []
use_by c y name (Some m) life = use_bar c y name m life

-- a transaction in the row of a record, where it uses that
abbrev pub use_of : Sheet → ℕ → List ℕ → Record → Track → List ℕ
use_of c y name r track = use_by c y name (mode_of track.ways.items r) track.life

unfoldable pub row_text : Sheet → List Track → ℕ → RecordRow → List ℕ
row_text c tracks y row =
    label_text 4 (y + 10) (record_text row.«record» ++ (codes " (" ++ (decimal row.users ++ codes ")")))
    ++ flat_map (use_of c y (record_text row.«record») row.«record») tracks

abbrev pub rows_text : Sheet → List Track → ℕ → List RecordRow → List ℕ
rows_text c tracks y [] = []
rows_text c tracks y (row ∷ rows) = row_text c tracks y row ++ rows_text c tracks (y + 16) rows

-- ---- the whole

abbrev pub every_of : ℕ → ℕ
every_of step = if nat_lt step 8 then 20 else if nat_lt step 16 then 10 else 5

unfoldable pub tick_text : Sheet → ℕ → ℕ → List ℕ
tick_text c height place =
    codes "<rect class='tick' x='" ++ (decimal (x_of c place) ++ (codes "' y='44' width='1' height='" ++ (decimal height
    ++ (codes "'/><text x='" ++ (decimal (x_of c place) ++ (codes "' y='54'>" ++ (decimal place ++ codes "</text>\n")))))))

-- at each so many places
abbrev pub tick_at : Sheet → ℕ → ℕ → List ℕ
tick_at c height place = if place % every_of c.step == 0 then tick_text c height place else []

-- a line at these of n places, from this one on
abbrev pub ticks_text : Sheet → ℕ → ℕ → ℕ → List ℕ
ticks_text c height place zero = []
ticks_text c height place (suc n) =
    tick_at c height place ++ ticks_text c height (place + 1) n

unfoldable pub shown_words : Sheet → ℕ → List ℕ
shown_words c count =
    decimal (c.to - c.from) ++ (codes " of " ++ (decimal count ++ (codes " events, from place " ++ (decimal c.from ++ codes " on: "))))

abbrev pub caption_words : Sheet → ℕ → ℕ → ℕ → List ℕ
caption_words c count transactions lanes =
    shown_words c count ++ (decimal transactions ++ (codes " transactions in " ++ (decimal lanes ++ codes " lanes")))

unfoldable pub caption_text : Sheet → ℕ → ℕ → ℕ → List ℕ
caption_text c count transactions lanes = label_text 4 14 (caption_words c count transactions lanes)

unfoldable pub head_text : ℕ → ℕ → List ℕ
head_text width height =
    codes "<svg xmlns='http://www.w3.org/2000/svg' width='" ++ (decimal width ++ (codes "' height='" ++ (decimal height
    ++ (codes "'>\n" ++ HEAD.now))))

-- below the lanes, which end at this height
unfoldable pub records_text : Sheet → ℕ → Picture → List ℕ
records_text c top p =
    label_text 4 (top + 16) RECORDS.now ++ (rows_text c p.tracks.items (top + 24) p.rows.items
    ++ (label_text 4 (top + 40 + length p.rows.items * 16) FOOT.now ++ codes "</svg>\n"))

-- of events from a place up to another, of so many that the log has
unfoldable pub svg_text : List Event → ℕ → ℕ → ℕ → Picture → List ℕ
svg_text events from to count p =
    let c = sheet_from from to in
    let below = 64 + min p.lanes 200 * 22 in
    head_text (max (x_of c to + 20) 960) (below + 60 + length p.rows.items * 16)
    ++ (caption_text c count (length p.tracks.items) p.lanes
    ++ (LEGEND.now ++ (ticks_text c (below - 44) from (to - from)
    ++ (flat_map (drawn_text c events) p.tracks.items ++ records_text c below p))))
