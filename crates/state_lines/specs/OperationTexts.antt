-- Operations, answers and ends of transactions as text.
use Rattle.std.specs.Prelude.{ℕ, List, ◌++◌, Some, None, codes, decimal}
use Rattle.access_slots.specs.declared.op.Op.{Op}
use Rattle.access_slots.specs.declared.op.Op.TheVariants.{Read, Insert, Update, Delete}
use Rattle.access_slots.specs.declared.op.Said.{Said}
use Rattle.access_slots.specs.declared.op.Said.TheVariants.{Value, Absent, Done, Duplicate, Missing, NoRoom, Old}
use Rattle.tc_log.specs.declared.event.Outcome.{Outcome}
use Rattle.tc_log.specs.declared.event.Outcome.TheVariants as outcome
use Rattle.state_lines.specs.RecordTexts.{record_text, value_text}

abbrev pub op_text : Op → List ℕ
op_text (Read r) = codes "read " ++ record_text r
op_text (Insert r v) = codes "insert " ++ (record_text r ++ (codes " " ++ value_text v))
op_text (Update r v) = codes "update " ++ (record_text r ++ (codes " " ++ value_text v))
op_text (Delete r) = codes "delete " ++ record_text r

abbrev pub said_text : Said → List ℕ
said_text (Value v) = codes "value " ++ value_text v
said_text Absent = codes "absent"
said_text (Done None) = codes "done"
said_text (Done (Some former)) = codes "done was " ++ value_text former
said_text Duplicate = codes "duplicate"
said_text Missing = codes "missing"
said_text NoRoom = codes "noroom"
said_text Old = codes "old"

abbrev pub outcome_text : Outcome → List ℕ
outcome_text outcome.Committed = codes "committed"
outcome_text (outcome.Aborted v) = codes "aborted " ++ decimal v
outcome_text outcome.NoRoom = codes "noroom"
