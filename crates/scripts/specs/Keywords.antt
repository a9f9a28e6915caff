-- The words that begin a script's lines.
use Rattle.std.specs.Prelude.{ℕ, Bool, true, false, if◌then◌else◌, List, [], ◌∷◌, Option, Some, None, codes}
use Rattle.std.specs.Str.{bytes_eq}
use Rattle.scripts.specs.declared.keyword.Command.{Command}
use Rattle.scripts.specs.declared.keyword.Command.TheVariants.{Verify, World, Run}
use Rattle.scripts.specs.declared.keyword.Keyword.{Keyword}
use Rattle.scripts.specs.declared.keyword.Keyword.TheVariants.{Dc, Proc, Slot, End, Admit, Ask, Undo, Resend, Perform}
use Rattle.scripts.specs.declared.keyword.Keyword.TheVariants.{Take, Restart, Checkpoint, Tell, Redo, Crash, Cut, Forge, First, Call}

abbrev pub keyword_name : Keyword → List ℕ
keyword_name Dc = codes "dc"
keyword_name Proc = codes "proc"
keyword_name Slot = codes "slot"
keyword_name End = codes "end"
keyword_name Admit = codes "admit"
keyword_name Ask = codes "ask"
keyword_name Undo = codes "undo"
keyword_name Resend = codes "resend"
keyword_name Perform = codes "perform"
keyword_name Take = codes "take"
keyword_name Restart = codes "restart"
keyword_name Checkpoint = codes "checkpoint"
keyword_name Tell = codes "tell"
keyword_name Redo = codes "redo"
keyword_name Crash = codes "crash"
keyword_name Cut = codes "cut"
keyword_name Forge = codes "forge"
keyword_name First = codes "first"
keyword_name Call = codes "call"

-- the first of these that has this name
abbrev pub first_named : List Keyword → List ℕ → Option Keyword
first_named [] word = None
first_named (keyword ∷ others) word = if bytes_eq word (keyword_name keyword) then Some keyword else first_named others word

abbrev pub keywords : List Keyword
keywords =
    Dc ∷ Proc ∷ Slot ∷ End ∷ Admit ∷ Ask ∷ Undo ∷ Resend ∷ Perform ∷ Take ∷ Restart ∷ Checkpoint ∷ Tell ∷ Redo ∷ Crash ∷ Cut ∷ Forge
    ∷ First ∷ Call ∷ []

abbrev pub keyword_said : List ℕ → Option Keyword
keyword_said word = first_named keywords word

abbrev pub is_world : Command → Bool
is_world Verify = false
is_world World = true
is_world Run = false

abbrev pub is_run : Command → Bool
is_run Verify = false
is_run World = false
is_run Run = true

-- whether the command's scripts know the word
abbrev pub knows : Command → Keyword → Bool
knows command Dc = true
knows command Proc = true
knows command Slot = true
knows command End = true
knows command Admit = is_world command
knows command Ask = is_world command
knows command Undo = is_world command
knows command Resend = is_world command
knows command Perform = is_world command
knows command Take = is_world command
knows command Restart = is_world command
knows command Checkpoint = is_world command
knows command Tell = is_world command
knows command Redo = is_world command
knows command Crash = is_world command
knows command Cut = is_world command
knows command Forge = is_world command
knows command First = is_run command
knows command Call = is_run command
