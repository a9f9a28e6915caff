use Rattle.std.proofs.Common.{◌≡◌, vec_len}
use Rattle.dc_links.proofs.ring_link.endpoints.Given as goal

abbrev pub invariant-loop-dc : goal.invariant-loop-dc
invariant-loop-dc l = vec_len l.endpoints ≡ l.dc
