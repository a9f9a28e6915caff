-- What a fault of a script is about.
use Rattle.std.specs.Prelude.{◌≡◌, ℕ, List, false, Option, None, Some, Result, Err}
use Rattle.scripts.specs.declared.cause.Cause.{Cause}
use Rattle.scripts.specs.declared.cause.Cause.TheVariants.{UnknownWord, ForeignWord, Form, Number, Unended}
use Rattle.scripts.specs.declared.fault.ScriptFault.TheVariants.{BadNumber}
use Rattle.scripts.specs.declared.keyword.Command.{Command}
use Rattle.scripts.specs.Keywords.{keyword_said, knows}
use Rattle.scripts.specs.Numbers.{number_to}

-- the word is no number up to this one
abbrev pub IsBadNumber : List ℕ → ℕ → Type 0
IsBadNumber word most = number_to most word ≡ Err BadNumber

-- the cause is so: no keyword, none of the command's, or no such number
abbrev pub IsCause : Command → Cause → Type 0
IsCause command (UnknownWord word) = keyword_said word.now ≡ None
IsCause command (ForeignWord keyword) = knows command keyword ≡ false
IsCause command (Number word most) = IsBadNumber word.now most
IsCause command other = Unit {0}
