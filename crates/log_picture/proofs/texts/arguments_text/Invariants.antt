use Rattle.std.proofs.Common.{◌≡◌, take}
use Rattle.std.specs.Prelude.{string_bytes}
use Rattle.log_picture.specs.Texts.{arguments_text}
use Rattle.log_picture.proofs.texts.arguments_text.Given as goal

abbrev pub invariant-pieces : goal.invariant-pieces
invariant-pieces l = string_bytes l.text ≡ arguments_text (take l.arg-index l.args)
