use Rattle.script_loading.proofs.CopyLemmas.{insns_done, insns_go_on}
use Rattle.script_loading.proofs.copies.insns_at.Goals as goal

pub loop-place-preserved : goal.loop-place-preserved
loop-place-preserved c =
    let l = c.loop-place in
    rw c.in_ok-put.ensures (insns_go_on l.place-index c.args.places.now _ l.insns.items _ c.loop-place-test.true l.invariant)

pub returns : goal.returns
returns c =
    let l = c.loop-place in
    insns_done l.place-index c.args.places.now l.insns.items _ c.loop-place-test.false l.invariant
