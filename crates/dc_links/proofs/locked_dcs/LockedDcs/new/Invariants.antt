use Rattle.std.proofs.Common.{◌≡◌, vec_len, length}
use Rattle.dc_links.proofs.locked_dcs.LockedDcs.new.Given as goal

abbrev pub invariant-loop-dc : goal.invariant-loop-dc
invariant-loop-dc l = vec_len l.locked ≡ length l.yielded
