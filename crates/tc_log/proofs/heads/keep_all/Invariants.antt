use Rattle.std.proofs.Common.{◌≡◌, ◌++◌, take}
use Rattle.std.specs.Prelude.{vec_capacity}
use Rattle.tc_log.proofs.heads.keep_all.Given as goal

abbrev pub invariant-numbers : goal.invariant-numbers
invariant-numbers l = record {
  kept : l.words.items ≡ l.initial.words.items ++ take l.place l.args;
  capacity : vec_capacity l.words ≡ vec_capacity l.initial.words;
}
