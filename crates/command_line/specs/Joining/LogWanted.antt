-- What is wanted of a log's file, by what was read of the words.
use Rattle.std.specs.Prelude.{Bool, true, false, Option, Some, None}
use Rattle.clap.specs.Words.{Text}
use Rattle.log_part.specs.declared.part.Part.{Part}
use Rattle.log_part.specs.declared.part.Part.TheVariants.{Whole, From, Last}
use Rattle.command_line.specs.Task.{LogWish, Events, EventsAndRows, Follow, Audit, Picture}

-- whether rows are asked for, and whether the log is followed; with a file of a picture and a part, and no audit
abbrev pub shown_wanted : Bool → Bool → Option Text → Part → Option LogWish
shown_wanted true follow (Some path) part = None
shown_wanted false true (Some path) part = None
shown_wanted false false (Some path) part = Some (Picture path part)
shown_wanted true true None part = None
shown_wanted false true None part = Some (Follow part)
shown_wanted false false None part = Some (Events part)
shown_wanted true false None Whole = Some EventsAndRows
shown_wanted true false None (From place) = None
shown_wanted true false None (Last wanted) = None

-- with an audit, and perhaps something else that shows the log
abbrev pub audit_wanted : Bool → Part → Text → Option Text → Option LogWish
audit_wanted true part source script = None
audit_wanted false Whole source script = Some (Audit source script)
audit_wanted false (From place) source script = None
audit_wanted false (Last wanted) source script = None
