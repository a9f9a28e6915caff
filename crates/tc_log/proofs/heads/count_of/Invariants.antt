use Rattle.std.proofs.Common.{◌≡◌, ◌-◌, ◌*◌, ◌≤◌, drop, replicate}
use Rattle.tc_log.proofs.heads.count_of.Given as goal

abbrev pub invariant-words : goal.invariant-words
invariant-words l = record {
  few : l.count ≤ 8;
  zeros : drop (8 * l.count) l.value ≡ replicate (64 - 8 * l.count) 0;
}

abbrev pub decreases-words : goal.decreases-words
decreases-words l = l.count
