use Rattle.std.proofs.Common.{◌≡◌, ◌≤◌, Some, arith, sym, ◌∙◌, subst}
use Rattle.std.specs.Prelude.{slice_get}
use Rattle.data_component.specs.Store.{Store}
use Rattle.transactions.specs.declared.Site.{Site}
use Rattle.tc_world.specs.Cutting.{kept_by}
use Rattle.tc_world.specs.Joining.Forgetting.{IsForgottenIn}
use Rattle.tc_world.proofs.CutLemmas.{as_many, none_forgotten, one_set, all_forgotten}
use Rattle.tc_world.proofs.cutting.forget_all.Goals as goal

pub loop-d-init : goal.loop-d-init
loop-d-init c = none_forgotten c.args.low_water c.args.state.now.sites c.args.dcs.now.items

pub forget_at-requires-clause-there : goal.forget_at-requires-clause-there
forget_at-requires-clause-there c =
    let count = c.loop-d.invariant.count in
    let all = c.len-d-end.ensures in
    omega (arith, c.loop-d-test.true, count, all)

pub forget_at-requires-clause-fits : goal.forget_at-requires-clause-fits
forget_at-requires-clause-fits c = λ s at.
    let was = as_many c.args.dcs.now.items c.loop-d.dcs.items c.loop-d.d s (sym c.loop-d.invariant.count) at in
    let same = c.loop-d.invariant.still c.loop-d.d was.0 was.1 (omega arith) in
    c.requires.fits c.loop-d.d s (was.1 ∙ (sym same ∙ at))

pub forget_at-requires-clause-kept : goal.forget_at-requires-clause-kept
forget_at-requires-clause-kept c = λ s at.
    let was = as_many c.args.dcs.now.items c.loop-d.dcs.items c.loop-d.d s (sym c.loop-d.invariant.count) at in
    let same = c.loop-d.invariant.still c.loop-d.d was.0 was.1 (omega arith) in
    let old : slice_get c.args.dcs.now.items c.loop-d.d ≡ Some s = was.1 ∙ (sym same ∙ at) in
    subst (λ (t : Site). c.args.low_water ≤ (kept_by c.args.low_water t.incarnation s).saved_mark) (sym c.site.ensures) (c.requires.kept c.loop-d.d s old)

pub loop-d-preserved : goal.loop-d-preserved
loop-d-preserved c =
    let set = subst (λ (t : Site). (s : Store) → slice_get c.loop-d.dcs.items c.loop-d.d ≡ Some s
    → IsForgottenIn (kept_by c.args.low_water t.incarnation s) c.loop-d.d c.loop-d.dcs.items c.forget_at.new.dcs.items) c.site.ensures c.forget_at.ensures in
    let count = c.loop-d.invariant.count in
    let all = c.len-d-end.ensures in
    one_set c.args.low_water c.args.state.now.sites c.loop-d.d c.args.dcs.now.items c.loop-d.dcs.items c.forget_at.new.dcs.items c.loop-d.invariant
    (omega (arith, c.loop-d-test.true, count, all)) set

pub returns : goal.returns
returns c =
    let all = c.len-d-end.ensures in
    all_forgotten c.args.low_water c.args.state.now.sites c.loop-d.d c.args.dcs.now.items c.loop-d.dcs.items
    (omega (arith, c.loop-d-test.false, all)) c.loop-d.invariant
