-- What a line says by itself.
use Rattle.std.specs.Prelude.{ℕ, Bool, false, ◌&&◌, ◌==◌, if◌then◌else◌, List, [], ◌∷◌, ◌++◌, length, drop, replicate}
use Rattle.std.specs.Prelude.{is_ok, Option, Some, None, Result, Ok, Err, codes}
use Rattle.std.specs.Int.{w64, to_le_bytes}
use Rattle.std.specs.Str.{bytes_eq}
use Rattle.access_slots.specs.declared.op.Said.{Said}
use Rattle.access_slots.specs.declared.op.Said.TheVariants as said
use Rattle.access_slots.specs.declared.slot.Key.{Key}
use Rattle.access_slots.specs.declared.slot.Key.TheVariants.{Arg, Fixed}
use Rattle.access_slots.specs.declared.slot.Mode.{Mode}
use Rattle.access_slots.specs.declared.slot.Mode.TheVariants.{Read, Write}
use Rattle.bpf_encoding.specs.declared.insn.Insn.{Insn}
use Rattle.bpf_asm.specs.Cutting.{said_in, word_of, rest_of, is_empty}
use Rattle.bpf_asm.specs.Lines.{insn_of_word}
use Rattle.bpf_asm.specs.Mnemonics.{mnemonic_said}
use Rattle.bpf_asm.specs.Numbers.{has}
use Rattle.bpf_asm.specs.declared.line.LineFault.{LineFault}
use Rattle.scripts.specs.declared.fault.ScriptFault.{ScriptFault}
use Rattle.scripts.specs.declared.fault.ScriptFault.TheVariants.{BadLine, Order, Asm}
use Rattle.scripts.specs.declared.keyword.Command.{Command}
use Rattle.scripts.specs.declared.keyword.Keyword.{Keyword}
use Rattle.scripts.specs.declared.keyword.Keyword.TheVariants.{Dc, Proc, Slot, End, Admit, Ask, Undo, Resend, Perform}
use Rattle.scripts.specs.declared.keyword.Keyword.TheVariants.{Take, Restart, Checkpoint, Tell, Redo, Crash, Cut, Forge, First, Call}
use Rattle.scripts.specs.declared.line.Line.{Line}
use Rattle.scripts.specs.declared.line.Line.TheVariants as line
use Rattle.scripts.specs.declared.script.Step.{Step}
use Rattle.scripts.specs.declared.script.Step.TheVariants as step
use Rattle.scripts.specs.Keywords.{keyword_said, knows, is_world}
use Rattle.scripts.specs.Names.{name_said}
use Rattle.scripts.specs.Numbers.{and_then, decimal_said, number_to, numbers_said}
use Rattle.scripts.specs.Words.{words_of, word_at}

-- 64 bytes: the number's eight, the lowest first, and zeros behind them
abbrev pub value_of : ℕ → List ℕ
value_of n = to_le_bytes w64 n ++ replicate 56 0

-- with as many words; else it is a bad line
abbrev pub with_words : {A : Type 0} → ℕ → ℕ → Result A ScriptFault → Result A ScriptFault
with_words wanted count said = if count == wanted then said else Err BadLine

-- dc ROWS OPS
abbrev pub dc_said : ℕ → List ℕ → List ℕ → Result Line ScriptFault
dc_said count rows ops =
    with_words 2 count (and_then (number_to 65536 rows) (λ r. and_then (number_to 1048576 ops) (λ o.
    Ok (line.Dc (record { rows = r; ops = o })))))

-- proc NAME ARGS
abbrev pub proc_said : ℕ → List ℕ → List ℕ → Result Line ScriptFault
proc_said count name args = with_words 2 count (and_then (name_said name) (λ n. and_then (number_to 255 args) (λ a. Ok (line.Proc n a))))

abbrev pub mode_said : List ℕ → Result Mode ScriptFault
mode_said word = if bytes_eq word (codes "read") then Ok Read else if bytes_eq word (codes "write") then Ok Write else Err BadLine

abbrev pub arg_key : ℕ → Result Key ScriptFault
arg_key argument = Ok (Arg argument)

abbrev pub fixed_key : ℕ → Result Key ScriptFault
fixed_key number = Ok (Fixed number)

-- a number, or `$` and the number of an argument
abbrev pub key_said : List ℕ → Result Key ScriptFault
key_said word = if has 0 36 word then and_then (number_to 255 (drop 1 word)) arg_key else and_then (decimal_said word) fixed_key

-- slot read|write DC TABLE KEY
abbrev pub slot_said : ℕ → List ℕ → List ℕ → List ℕ → List ℕ → Result Line ScriptFault
slot_said count mode dc table key =
    with_words 4 count (and_then (mode_said mode) (λ m. and_then (number_to 65535 dc) (λ d.
    and_then (number_to 65535 table) (λ t. and_then (key_said key) (λ k.
    Ok (line.Slot (record { mode = m; dc = d; table = t; key = k })))))))

-- end
abbrev pub end_said : ℕ → Result Line ScriptFault
end_said count = with_words 0 count (Ok line.End)

abbrev pub one_number : ℕ → List ℕ → Result ℕ ScriptFault
one_number count number = with_words 1 count (decimal_said number)

abbrev pub in_step : (ℕ → Step) → Result ℕ ScriptFault → Result Line ScriptFault
in_step make number = and_then number (λ n. Ok (line.Step (make n)))

-- the one data component of a line
abbrev pub one_dc : ℕ → List ℕ → Result ℕ ScriptFault
one_dc count dc = with_words 1 count (number_to 65535 dc)

-- a step whose word stands alone
abbrev pub alone_said : ℕ → Step → Result Line ScriptFault
alone_said count s = with_words 0 count (Ok (line.Step s))

-- what is said in one word
abbrev pub plain_answer : List ℕ → Result Said ScriptFault
plain_answer word =
    if bytes_eq word (codes "absent") then Ok said.Absent else
    if bytes_eq word (codes "done") then Ok (said.Done None) else
    if bytes_eq word (codes "duplicate") then Ok said.Duplicate else
    if bytes_eq word (codes "missing") then Ok said.Missing else
    if bytes_eq word (codes "noroom") then Ok said.NoRoom else
    if bytes_eq word (codes "old") then Ok said.Old else Err BadLine

-- behind a number: one word, `value V` or `done was V`
abbrev pub answer_said : ℕ → List ℕ → List ℕ → List ℕ → Result Said ScriptFault
answer_said count word second third =
    if count == 2 then plain_answer word else
    if (count == 3) && bytes_eq word (codes "value") then and_then (decimal_said second) (λ n. Ok (said.Value (value_of n))) else
    if (count == 4) && (bytes_eq word (codes "done") && bytes_eq second (codes "was")) then
    and_then (decimal_said third) (λ n. Ok (said.Done (Some (value_of n)))) else
    Err BadLine

-- forge NUMBER SAID: a reply of incarnation 0
abbrev pub forge_said : ℕ → List ℕ → List ℕ → List ℕ → List ℕ → Result Step ScriptFault
forge_said count number word second third =
    and_then (answer_said count word second third) (λ answer. and_then (decimal_said number) (λ n.
    Ok (step.Forge (record { number = n; incarnation = 0; said = answer }))))

abbrev pub as_step : Result Step ScriptFault → Result Line ScriptFault
as_step said = and_then said (λ s. Ok (line.Step s))

-- a line of so many words, of which these are the first; `end` with a number is a step
abbrev pub fixed_by : Keyword → Bool → ℕ → List ℕ → List ℕ → List ℕ → List ℕ → Result Line ScriptFault
fixed_by Dc is_step count a b c d = dc_said count a b
fixed_by Proc is_step count a b c d = proc_said count a b
fixed_by Slot is_step count a b c d = slot_said count a b c d
fixed_by End is_step count a b c d = if is_step then in_step step.End (one_number count a) else end_said count
fixed_by Admit is_step count a b c d = Err BadLine
fixed_by Ask is_step count a b c d = in_step step.Ask (one_number count a)
fixed_by Undo is_step count a b c d = in_step step.Undo (one_number count a)
fixed_by Resend is_step count a b c d = in_step step.Resend (one_number count a)
fixed_by Perform is_step count a b c d = in_step step.Perform (one_number count a)
fixed_by Take is_step count a b c d = in_step step.Take (one_number count a)
fixed_by Restart is_step count a b c d = in_step step.Restart (one_dc count a)
fixed_by Checkpoint is_step count a b c d = in_step step.Checkpoint (one_dc count a)
fixed_by Tell is_step count a b c d = in_step step.Tell (one_number count a)
fixed_by Redo is_step count a b c d = in_step step.Redo (one_dc count a)
fixed_by Crash is_step count a b c d = in_step step.Crash (one_number count a)
fixed_by Cut is_step count a b c d = alone_said count step.Cut
fixed_by Forge is_step count a b c d = as_step (forge_said count a b c d)
fixed_by First is_step count a b c d = Err BadLine
fixed_by Call is_step count a b c d = Err BadLine

abbrev pub fixed_said : Keyword → Bool → List (List ℕ) → Result Line ScriptFault
fixed_said keyword is_step words =
    fixed_by keyword is_step (length words) (word_at 0 words) (word_at 1 words) (word_at 2 words) (word_at 3 words)

-- NAME ARG..
abbrev pub named_said : List (List ℕ) → Result (List ℕ × List ℕ) ScriptFault
named_said [] = Err BadLine
named_said (name ∷ args) = and_then (name_said name) (λ n. and_then (numbers_said args) (λ ns. Ok (n, ns)))

abbrev pub called_by : (List ℕ → List ℕ → Line) → List (List ℕ) → Result Line ScriptFault
called_by make words = and_then (named_said words) (λ call. Ok (make call.0 call.1))

-- a line that begins with a keyword
abbrev pub known_said : Keyword → Bool → List (List ℕ) → Result Line ScriptFault
known_said Dc is_step words = fixed_said Dc is_step words
known_said Proc is_step words = fixed_said Proc is_step words
known_said Slot is_step words = fixed_said Slot is_step words
known_said End is_step words = fixed_said End is_step words
known_said Admit is_step words = called_by line.Admit words
known_said Ask is_step words = fixed_said Ask is_step words
known_said Undo is_step words = fixed_said Undo is_step words
known_said Resend is_step words = fixed_said Resend is_step words
known_said Perform is_step words = fixed_said Perform is_step words
known_said Take is_step words = fixed_said Take is_step words
known_said Restart is_step words = fixed_said Restart is_step words
known_said Checkpoint is_step words = fixed_said Checkpoint is_step words
known_said Tell is_step words = fixed_said Tell is_step words
known_said Redo is_step words = fixed_said Redo is_step words
known_said Crash is_step words = fixed_said Crash is_step words
known_said Cut is_step words = fixed_said Cut is_step words
known_said Forge is_step words = fixed_said Forge is_step words
known_said First is_step words = called_by line.First words
known_said Call is_step words = called_by line.Call words

abbrev pub in_assembly : Result Insn LineFault → Result Line ScriptFault
in_assembly (Ok insn) = Ok (line.Insn insn)
in_assembly (Err fault) = Err (Asm fault)

abbrev pub assembly_said : List ℕ → List ℕ → Result Line ScriptFault
assembly_said word rest = in_assembly (insn_of_word word rest)

-- outside of procedures an instruction isn't at its place, and any other word is unknown
abbrev pub foreign_fault : List ℕ → ScriptFault
foreign_fault word = if is_ok (mnemonic_said word) then Order else BadLine

abbrev pub if_known : Bool → Result Line ScriptFault → Result Line ScriptFault
if_known is_known line = if is_known then line else Err BadLine

-- inside of a procedure `call`, and all that is no keyword, is assembly
abbrev pub inside_said : Command → Option Keyword → List ℕ → List ℕ → Result Line ScriptFault
inside_said command None word rest = assembly_said word rest
inside_said command (Some Call) word rest = assembly_said word rest
inside_said command (Some keyword) word rest = if_known (knows command keyword) (known_said keyword false (words_of rest))

-- outside of procedures
abbrev pub outside_said : Command → Option Keyword → List ℕ → List ℕ → Result Line ScriptFault
outside_said command None word rest = Err (foreign_fault word)
outside_said command (Some keyword) word rest = if_known (knows command keyword) (known_said keyword (is_world command) (words_of rest))

abbrev pub text_said : Command → Bool → List ℕ → Result Line ScriptFault
text_said command is_open text =
    if is_open then inside_said command (keyword_said (word_of text)) (word_of text) (rest_of text) else
    outside_said command (keyword_said (word_of text)) (word_of text) (rest_of text)

-- what a line says: nothing where it is empty but for blanks and a comment
abbrev pub line_said : Command → Bool → List ℕ → Result Line ScriptFault
line_said command is_open bytes = if is_empty (said_in bytes) then Ok line.Nothing else text_said command is_open (said_in bytes)
