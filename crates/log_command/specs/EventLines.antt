-- The lines of events.
use Rattle.std.specs.Prelude.{ℕ, ◌+◌, List, [], ◌∷◌, ◌++◌, codes, decimal}
use Rattle.std.specs.List.{flat_map}
use Rattle.tc_log.specs.declared.event.Event.{Event}
use Rattle.tc_log.specs.declared.event.Event.TheVariants.{Admit, Ask, Answer, Undo, End, Checkpoint}
use Rattle.state_lines.specs.OperationTexts.{op_text, said_text, outcome_text}

-- each behind a space
abbrev pub arguments_text : List ℕ → List ℕ
arguments_text args = flat_map (λ arg. codes " " ++ decimal arg) args

-- its place in the log, what it is, and its transaction's serial number
abbrev pub event_line : ℕ → Event → List ℕ
event_line place (Admit t p args) =
    decimal place ++ (codes " admit " ++ (decimal t ++ (codes " procedure " ++ (decimal p ++ (arguments_text args ++ codes "\n")))))
event_line place (Ask t n o) =
    decimal place ++ (codes " ask " ++ (decimal t ++ (codes " number " ++ (decimal n ++ (codes " " ++ (op_text o ++ codes "\n"))))))
event_line place (Answer t n said) =
    decimal place ++ (codes " answer " ++ (decimal t ++ (codes " number " ++ (decimal n ++ (codes " " ++ (said_text said ++ codes "\n"))))))
event_line place (Undo t n o) =
    decimal place ++ (codes " undo " ++ (decimal t ++ (codes " number " ++ (decimal n ++ (codes " " ++ (op_text o ++ codes "\n"))))))
event_line place (End t o) = decimal place ++ (codes " end " ++ (decimal t ++ (codes " " ++ (outcome_text o ++ codes "\n"))))
event_line place (Checkpoint a g) = decimal place ++ (codes " checkpoint " ++ (decimal a ++ (codes " " ++ (decimal g ++ codes "\n"))))

-- of events in order, the first of them at this place
abbrev pub event_lines : ℕ → List Event → List ℕ
event_lines place [] = []
event_lines place (e ∷ events) = event_line place e ++ event_lines (place + 1) events
