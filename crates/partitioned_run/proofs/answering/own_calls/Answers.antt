use Rattle.std.proofs.Common.{arith, ◌<◌, length}
use Rattle.partitioned_run.proofs.DividingLemmas.{calls_more}
use Rattle.partitioned_run.proofs.answering.own_calls.Goals as goal

pub loop-place-preserved : goal.loop-place-preserved
loop-place-preserved c =
    let l = c.loop-place in
    let lt : l.place < length c.args.said.now = omega arith in
    calls_more c.args.number c.args.numbers.now c.args.said.now c.index-said-place.result l.place l.own.items c.add_if.new.own.items c.requires lt l.invariant
    c.index-said-place.is c.in_ok-add_if.ensures
