use Rattle.std.proofs.Common.{◌≡◌, ℕ, ◌^◌, ◌≤◌, Some, List, refl, sym, ◌∙◌, ap, subst, arith, add-one}
use Rattle.std.specs.Prelude.{slice_get, slice_set}
use Rattle.data_component.specs.Store.{Store, restarted}
use Rattle.tc_core.proofs.KeptLemmas.{slice_get-index}
use Rattle.coming_back.specs.Coming.{HasOnlyRows}
use Rattle.coming_back.proofs.RenewLemmas.{mapped, mapped_none, mapped_all, mapped_read, mapped_next}
use Rattle.coming_back.proofs.restarting.restart_all.Goals as goal

pub loop-dc-init : goal.loop-dc-init
loop-dc-init c = sym (mapped_none restarted c.args.dcs.now)

pub loop-dc-preserved : goal.loop-dc-preserved
loop-dc-preserved c =
    let i = c.loop-dc.dc-index in
    let xs = c.args.dcs.now in
    let ys = c.loop-dc.dcs in
    let d : Store = c.dc-item.result in
    let was : slice_get xs i ≡ Some d = mapped_read restarted xs ys i d c.loop-dc.invariant (omega arith) c.dc-item.is in
    ap (slice_set ys i) (c.in-Ok.ensures.ok ∙ ap restarted (sym c.dc-item.is))
    ∙ (ap (λ (zs : List Store). slice_set zs i (restarted d)) c.loop-dc.invariant
    ∙ (mapped_next restarted xs i d was ∙ ap (mapped restarted xs) (sym (add-one i))))

pub unreachable-requires : goal.unreachable-requires
unreachable-requires c =
    let i = c.loop-dc.dc-index in
    let xs = c.args.dcs.now in
    let ys = c.loop-dc.dcs in
    let d : Store = c.dc-item.result in
    let was : slice_get xs i ≡ Some d = mapped_read restarted xs ys i d c.loop-dc.invariant (omega arith) c.dc-item.is in
    let only : HasOnlyRows d = subst HasOnlyRows (slice_get-index xs i d d was) (c.requires i d c.loop-dc-test.true) in
    let zero : d.incarnation ≡ 0 = only.never in
    let spent : 2 ^ 62 ≤ d.incarnation = subst (λ (s : Store). 2 ^ 62 ≤ s.incarnation) (sym c.dc-item.is) (c.in-Err.ensures.spent.0 refl) in
    let bad : 2 ^ 62 ≤ 0 = subst (λ (n : ℕ). 2 ^ 62 ≤ n) zero spent in
    omega (arith, bad)

pub returns : goal.returns
returns c = c.loop-dc.invariant ∙ mapped_all restarted c.args.dcs.now c.loop-dc.dc-index (omega arith)
