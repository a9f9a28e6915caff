-- The texts of what a picture shows.
use Rattle.std.specs.Prelude.{ℕ, Bool, true, false, List, [], ◌++◌, Option, Some, None, option_map, slice_get, codes, decimal}
use Rattle.std.specs.List.{flat_map}
use Rattle.access_slots.specs.declared.slot.Record.{Record}
use Rattle.access_slots.specs.declared.slot.Mode.{Mode}
use Rattle.access_slots.specs.declared.slot.Mode.TheVariants as mode
use Rattle.access_slots.specs.declared.op.Op.{Op}
use Rattle.access_slots.specs.declared.op.Op.TheVariants.{Read, Insert, Update, Delete}
use Rattle.access_slots.specs.declared.op.Said.{Said}
use Rattle.access_slots.specs.declared.op.Said.TheVariants as said
use Rattle.access_slots.specs.Locks.{target}
use Rattle.tc_log.specs.declared.event.Event.{Event}
use Rattle.tc_log.specs.declared.event.Event.TheVariants.{Admit}
use Rattle.tc_log.specs.declared.event.Outcome.{Outcome}
use Rattle.tc_log.specs.declared.event.Outcome.TheVariants as outcome
use Rattle.log_picture.specs.declared.life.Ending.{Ending}
use Rattle.log_picture.specs.declared.life.Life.{Life}
use Rattle.log_picture.specs.declared.way.Answering.{Answering}
use Rattle.log_picture.specs.declared.way.Way.{Way}

-- DC/TABLE/KEY
abbrev pub record_text : Record → List ℕ
record_text r = decimal r.dc ++ (codes "/" ++ (decimal r.table ++ (codes "/" ++ decimal r.key)))

-- each behind a space
abbrev pub arguments_text : List ℕ → List ℕ
arguments_text args = flat_map (λ arg. codes " " ++ decimal arg) args

abbrev pub arguments_of : Option Event → List ℕ
arguments_of (Some (Admit t p args)) = arguments_text args
arguments_of _ = []

-- those of the call that the event at this place admits
abbrev pub arguments_at : List Event → ℕ → List ℕ
arguments_at events place = arguments_of (slice_get events place)

abbrev pub op_word : Op → List ℕ
op_word (Read r) = codes "read"
op_word (Insert r v) = codes "insert"
op_word (Update r v) = codes "update"
op_word (Delete r) = codes "delete"

abbrev pub word_of : Said → List ℕ
word_of (said.Value v) = codes "value"
word_of said.Absent = codes "absent"
word_of (said.Done former) = codes "done"
word_of said.Duplicate = codes "duplicate"
word_of said.Missing = codes "missing"
word_of said.NoRoom = codes "noroom"
word_of said.Old = codes "old"

abbrev pub said_word : Option Answering → List ℕ
said_word None = codes "on its way"
said_word (Some answering) = word_of answering.said

-- from which event to which something is
abbrev pub span_text : ℕ → Option ℕ → List ℕ
span_text begin None = codes "from event " ++ (decimal begin ++ codes " on")
span_text begin (Some end) = codes "events " ++ (decimal begin ++ (codes " to " ++ decimal end))

abbrev pub outcome_word : Outcome → List ℕ
outcome_word outcome.Committed = codes "committed"
outcome_word (outcome.Aborted v) = codes "aborted"
outcome_word outcome.NoRoom = codes "noroom"

abbrev pub class_of : Option Ending → List ℕ
class_of None = codes "open"
class_of (Some ending) = outcome_word ending.outcome

abbrev pub behind_word : Outcome → List ℕ
behind_word (outcome.Aborted v) = codes " " ++ decimal v
behind_word _ = []

-- with what it aborted
abbrev pub behind_class : Option Ending → List ℕ
behind_class None = []
behind_class (Some ending) = behind_word ending.outcome

unfoldable pub life_title : List Event → Life → List ℕ
life_title events life =
    codes "transaction " ++ (decimal life.txn ++ (codes ", procedure " ++ (decimal life.proc ++ (arguments_at events life.begin
    ++ (codes ": " ++ (span_text life.begin (option_map (λ e. e.place) life.end)
    ++ (codes ", " ++ (class_of life.end ++ behind_class life.end))))))))

abbrev pub way_class : Bool → List ℕ
way_class true = codes "undo"
way_class false = codes "ask"

unfoldable pub way_title : Way → List ℕ
way_title way =
    way_class way.undo ++ (codes ", number " ++ (decimal way.number
    ++ (codes ": " ++ (span_text way.begin (option_map (λ a. a.place) way.end)
    ++ (codes ", " ++ (op_word way.op ++ (codes " " ++ (record_text (target way.op) ++ (codes ", " ++ said_word way.end)))))))))

abbrev pub mode_class : Mode → List ℕ
mode_class mode.Read = codes "read"
mode_class mode.Write = codes "write"

unfoldable pub use_title : List ℕ → Mode → Life → List ℕ
use_title name m life =
    name ++ (codes ": " ++ (mode_class m ++ (codes " by transaction " ++ (decimal life.txn
    ++ (codes ", " ++ span_text life.begin (option_map (λ e. e.place) life.end))))))
