-- What `log --picture` makes of a log's file.
use Rattle.std.specs.Prelude.{◌≡◌, ℕ, ◌+◌, ◌-◌, min, List, ◌++◌, length, take, reverse, Option, Some, None, codes, decimal}
use Rattle.tc_log.specs.declared.event.Event.{Event}
use Rattle.log_file.specs.declared.stored.Stored.{Stored}
use Rattle.log_file.specs.Stored.{IsStored}
use Rattle.log_part.specs.declared.part.Part.{Part}
use Rattle.log_part.specs.Part.{first_of, at_most}
use Rattle.log_picture.specs.declared.picture.Picture.{Picture}
use Rattle.log_picture.specs.Picture.{IsPicture}
use Rattle.log_picture.specs.Drawing.{svg_text}
use Rattle.log_command.specs.LogReport.{unfinished_line, IsUnread}

-- where the events of a part that are shown begin in a log of so many; and where they end: all up to the log's end, or 1000
abbrev pub shown_from : Part → ℕ → ℕ
shown_from part count = first_of (at_most part 1000) count

abbrev pub shown_to : Part → ℕ → ℕ
shown_to part count = shown_from part count + min (count - shown_from part count) 1000

-- the text of a picture of the events from a place up to another, as the log stood behind them
pub record IsDrawing (from to : ℕ) (events : List Event) (svg : List ℕ) : Type 0 where
  pub picture : Picture
  pub of : IsPicture (take to events) from 16 picture
  pub text : svg ≡ svg_text (take to events) from to (length events) picture

-- how many events are shown of how many, and the picture's length
unfoldable pub picture_line : (from to count bytes : ℕ) → List ℕ
picture_line from to count bytes =
    codes "picture " ++ (decimal (to - from) ++ (codes " of " ++ (decimal count ++ (codes " events from place " ++ (decimal from
    ++ (codes ", " ++ (decimal bytes ++ codes " bytes\n")))))))

-- of a log that was read: the picture, and a line of it
pub record IsDrawnOf (part : Part) (s : Stored) (svg : Option (List ℕ)) (status : ℕ) (lines : List ℕ) : Type 0 where
  pub from : ℕ
  pub to : ℕ
  pub begins : from ≡ shown_from part (length (reverse s.log.events))
  pub ends : to ≡ shown_to part (length (reverse s.log.events))
  pub text : List ℕ
  pub is : svg ≡ Some text
  pub drawn : IsDrawing from to (reverse s.log.events) text
  pub lines_are : lines ≡ picture_line from to (length (reverse s.log.events)) (length text) ++ unfinished_line s.unfinished
  pub status_is : status ≡ 0

pub data IsPicturing (part : Part) (file : List ℕ) (svg : Option (List ℕ)) (status : ℕ) (lines : List ℕ) : Type 0 where
  Drawn : (s : Stored) → IsStored file s → IsDrawnOf part s svg status lines → IsPicturing part file svg status lines
  NotDrawn : IsUnread file status lines → svg ≡ None → IsPicturing part file svg status lines
