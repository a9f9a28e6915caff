use Rattle.std.proofs.Common.{◌≡◌, ℕ, ◌≤◌, List, arith, sym, ◌∙◌, ap, subst}
use Rattle.std.specs.Prelude.{slice_get}
use Rattle.std.proofs.lemmas.Result.{err_from_is_err_and}
use Rattle.history.specs.Flight.{low_water}
use Rattle.transactions.specs.Room.{each_one, total}
use Rattle.data_component.specs.Store.{Store}
use Rattle.tc_core.specs.Core.{Core}
use Rattle.tc_core.specs.Checkpointing.{MayCheckpoint, IsCheckpointFault}
use Rattle.transactions.specs.InFlight.{site_at}
use Rattle.tc_world.specs.Cutting.{kept_by, marks_from, IsUnforgettable, AreForgotten}
use Rattle.tc_world.proofs.CutSteps.{low_kept}
use Rattle.tc_world.proofs.cutting.cut.Goals as goal

pub returns-in-Some-clause-why : goal.returns-in-Some-clause-why
returns-in-Some-clause-why c =
    let state = c.args.state.now in
    let dcs = c.args.dcs.now.items in
    let many = c.open_count-open.ensures in
    let zero : total each_one state.events ≡ 0 = omega (arith, many, c.if-open-gt0.false) in
    let found : IsUnforgettable c.low_water-low_water.result c.as_slice.result.now c.in-Some.dc = c.in-Some.ensures.found in (
      zero,
      subst (λ (n : ℕ). IsUnforgettable n dcs c.in-Some.dc) c.low_water-low_water.ensures
          (subst (λ (xs : List Store). IsUnforgettable c.low_water-low_water.result xs c.in-Some.dc) c.as_slice.ensures.value found),
    )

pub returns-in_err-marks-clause-why : goal.returns-in_err-marks-clause-why
returns-in_err-marks-clause-why c =
    let many = c.open_count-open.ensures in
    let zero : total each_one c.args.state.now.events ≡ 0 = omega (arith, many, c.if-open-gt0.false) in
    let p = err_from_is_err_and c.from_residual.result c.from_residual.ensures.1 in
    rw (p.1, p.2) zero

pub returns-in-Err-clause-why : goal.returns-in-Err-clause-why
returns-in-Err-clause-why c =
    let state = c.args.state.now in
    let marks : c.as_slice-3.result.now ≡ marks_from (low_water state.events) state.sites 0 c.args.dcs.now.items =
    c.as_slice-3.ensures.value ∙ (c.in_ok-marks.ensures
    ∙ ap (marks_from (low_water state.events) state.sites 0) c.as_slice-2.ensures.value) in
    subst (λ (ms : List ℕ). IsCheckpointFault state ms c.in-Err.fault) marks c.in-Err.ensures.fault

pub forget_all-requires-clause-fits : goal.forget_all-requires-clause-fits
forget_all-requires-clause-fits c = λ d s at.
    c.in_default.ensures.none d s (ap (λ (xs : List Store). slice_get xs d) c.as_slice.ensures.value ∙ at)

pub forget_all-requires-clause-kept : goal.forget_all-requires-clause-kept
forget_all-requires-clause-kept c = λ d s at.
    let state = c.args.state.now in
    let dcs = c.args.dcs.now.items in
    let marks : c.as_slice-3.result.now ≡ marks_from (low_water state.events) state.sites 0 dcs =
    c.as_slice-3.ensures.value ∙ (c.in_ok-marks.ensures
    ∙ ap (marks_from (low_water state.events) state.sites 0) c.as_slice-2.ensures.value) in
    let may : MayCheckpoint state (marks_from (low_water state.events) state.sites 0 dcs) = subst (MayCheckpoint state) marks c.in-Ok.ensures.may in
    subst (λ (x : Core). c.low_water-low_water.result ≤ (kept_by c.low_water-low_water.result
    (site_at x.sites d).incarnation s).saved_mark) (sym c.in-Ok.ensures.ok)
    (subst (λ (n : ℕ). n ≤ (kept_by n (site_at state.sites d).incarnation s).saved_mark) (sym c.low_water-low_water.ensures) (low_kept state dcs may d s at))

pub returns-clause-cut : goal.returns-clause-cut
returns-clause-cut c =
    let state = c.args.state.now in
    let dcs = c.args.dcs.now.items in
    let new = c.forget_all.new.dcs.items in
    let marks : c.as_slice-3.result.now ≡ marks_from (low_water state.events) state.sites 0 dcs =
    c.as_slice-3.ensures.value ∙ (c.in_ok-marks.ensures
    ∙ ap (marks_from (low_water state.events) state.sites 0) c.as_slice-2.ensures.value) in
    record {
      may = subst (MayCheckpoint state) marks c.in-Ok.ensures.may;
      forgotten =
          subst (λ (n : ℕ). AreForgotten n state.sites dcs new) c.low_water-low_water.ensures
          (subst (λ (x : Core). AreForgotten c.low_water-low_water.result x.sites dcs new) c.in-Ok.ensures.ok c.forget_all.ensures);
      next = c.in-Ok.ensures.ok;
    }
