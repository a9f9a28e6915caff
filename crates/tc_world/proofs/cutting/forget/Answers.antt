use Rattle.std.proofs.Common.{◌≡◌, true, false, sym, ◌∙◌, ap}
use Rattle.data_component.specs.Store.{checkpointed, may_forget}
use Rattle.tc_world.specs.Cutting.{kept_by}
use Rattle.tc_world.proofs.CutLemmas.{may_forget_kept}
use Rattle.tc_world.proofs.cutting.forget.Goals as goal

pub unreachable-requires : goal.unreachable-requires
unreachable-requires c =
    let kept = c.checkpoint-mark.ensures.store ∙ ap checkpointed c.hear_mark.ensures in
    let may : may_forget (kept_by c.args.low_water c.args.incarnation c.args.dc.now) ≡ true
    = may_forget_kept c.args.low_water c.args.incarnation c.args.dc.now c.requires.fits c.requires.kept in
    let bad : false ≡ true = sym c.if-not-forget.true ∙ (c.forget.ensures.told ∙ (ap may_forget kept ∙ may)) in
    absurd cc
