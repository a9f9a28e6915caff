use Rattle.std.proofs.Common.{◌≡◌, ◌++◌, ◌+◌, ◌-◌, ◌*◌, take, drop}
use Rattle.std.specs.Prelude.{string_bytes}
use Rattle.std.specs.List.{flat_map}
use Rattle.log_picture.specs.Canvas.{sheet}
use Rattle.log_picture.specs.Drawing.{drawn_text}
use Rattle.log_picture.proofs.drawing.write_tracks.Given as goal

abbrev pub invariant-tracks : goal.invariant-tracks
invariant-tracks l = string_bytes l.svg ≡ string_bytes l.initial.svg ++ flat_map (drawn_text (sheet l.canvas) l.events) (take l.track-index l.tracks)
