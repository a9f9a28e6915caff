use Rattle.std.proofs.Common.{◌≡◌, vec_len, length}
use Rattle.dc_links.proofs.locked_dcs.LockedDcs.into_dcs.Given as goal

abbrev pub invariant-loop-dc : goal.invariant-loop-dc
invariant-loop-dc l = vec_len l.dcs ≡ length l.yielded
