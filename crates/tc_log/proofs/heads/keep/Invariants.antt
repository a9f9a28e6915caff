use Rattle.std.proofs.Common.{◌≡◌, ◌++◌}
use Rattle.std.specs.Prelude.{vec_capacity}
use Rattle.tc_log.specs.Heads.{words_in}
use Rattle.tc_log.proofs.heads.keep.Given as goal

abbrev pub invariant-words : goal.invariant-words
invariant-words l = record {
  kept : l.words.items ≡ l.initial.words.items ++ words_in l.place l.value;
  capacity : vec_capacity l.words ≡ vec_capacity l.initial.words;
}
