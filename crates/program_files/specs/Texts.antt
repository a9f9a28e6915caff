-- Which bytes are a text.
use Rattle.std.specs.Prelude.{◌≡◌, ℕ, List, [], ◌∷◌, take, true}
use Rattle.std.specs.Str.{IsUtf8}
use Rattle.object_file.specs.Elf.{is_elf}
use Rattle.program_files.specs.declared.reading.TextFault.{TextFault}
use Rattle.program_files.specs.declared.reading.TextFault.TheVariants.{NotUtf8, Marked, Object}

-- the byte order mark, U+FEFF in UTF-8
abbrev pub byte_order_mark : List ℕ
byte_order_mark = 239 ∷ 187 ∷ 191 ∷ []

-- why bytes aren't a text
abbrev pub IsTextFault : List ℕ → TextFault → Type 0
IsTextFault bytes NotUtf8 = ¬ (IsUtf8 bytes)
IsTextFault bytes Marked = take 3 bytes ≡ byte_order_mark
IsTextFault bytes Object = is_elf bytes ≡ true
