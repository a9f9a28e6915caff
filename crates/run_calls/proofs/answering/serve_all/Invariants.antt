use Rattle.std.proofs.Common.{◌≡◌, drop, length}
use Rattle.std.specs.Vec.Iter.{into_iter_items}
use Rattle.run_calls.specs.Joining.Servers.{ArePromised}
use Rattle.run_calls.proofs.answering.serve_all.Given as goal

abbrev pub invariant-loop-dc : goal.invariant-loop-dc
invariant-loop-dc g l =
    (into_iter_items l.dc-iterator ≡ drop (length l.servers.items) l.fn.dcs.items) × ArePromised l.fn.dcs.items l.servers.items
