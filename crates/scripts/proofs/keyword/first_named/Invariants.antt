use Rattle.std.proofs.Common.{◌≡◌, drop}
use Rattle.scripts.specs.Keywords.{first_named}
use Rattle.scripts.proofs.keyword.first_named.Given as goal

abbrev pub invariant-names : goal.invariant-names
invariant-names l = first_named (drop l.keyword-index l.keywords) l.word ≡ first_named l.keywords l.word
