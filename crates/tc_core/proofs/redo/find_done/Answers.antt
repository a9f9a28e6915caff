use Rattle.std.proofs.Common.{arith, ◌≡◌, ℕ, ◌<◌, ◌∙◌, sym, reverse, length}
use Rattle.std.proofs.lemmas.List.{length-reverse}
use Rattle.tc_core.proofs.ScanLemmas.{scan_next}
use Rattle.tc_core.proofs.redo.find_done.Goals as goal

pub loop-place-preserved : goal.loop-place-preserved
loop-place-preserved c =
    scan_next c.args.dc c.args.after c.loop-place.place (reverse c.args.log.now.events)
    (inside c.loop-place.place c.len-place-end.result (length c.args.log.now.events)
    (length (reverse c.args.log.now.events)) c.loop-place-test.true c.len-place-end.ensures
    (length-reverse c.args.log.now.events)) (sym c.at.ensures ∙ c.in_default.is) ∙ c.loop-place.invariant
  where
    inside : (place end all same : ℕ) → place < end → end ≡ all → same ≡ all → place < same
    inside place end all same below is back = omega (arith, below, is, back)
