use Rattle.std.proofs.Common.{◌≡◌, vec_len}
use Rattle.dc_links.proofs.ring_link.rings_of_completions.Given as goal

abbrev pub invariant-loop-worker : goal.invariant-loop-worker
invariant-loop-worker l = vec_len l.rings ≡ l.worker
