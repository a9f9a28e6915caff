-- An event that is read from a log.
use Rattle.std.specs.Prelude.{Option}
use Rattle.std.specs.Option.{option_map}
use Rattle.tc_log.specs.declared.event.Event.{Event}
use Rattle.tc_log.specs.declared.event.Event.TheVariants.{Admit, Ask, Answer, Undo, End, Checkpoint}
use Rattle.tc_log.specs.declared.event.Entry.{Entry}
use Rattle.tc_log.specs.declared.event.Entry.TheVariants as entry

-- the event that is seen so
abbrev pub seen : Entry → Event
seen (entry.Admit txn proc args) = Admit txn proc args.now
seen (entry.Ask txn number o) = Ask txn number o
seen (entry.Answer txn number said) = Answer txn number said
seen (entry.Undo txn number o) = Undo txn number o
seen (entry.End txn o) = End txn o
seen (entry.Checkpoint admitted given) = Checkpoint admitted given

abbrev pub seen_if : Option Entry → Option Event
seen_if o = option_map seen o
