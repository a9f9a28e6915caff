use Rattle.std.proofs.Common.{◌≡◌, Some, refl, sym, ◌∙◌, subst}
use Rattle.std.specs.Prelude.{length, slice_get}
use Rattle.std.proofs.lemmas.Option.{slice_get_read}
use Rattle.data_component.specs.Store.{Store, HasForgotten}
use Rattle.transactions.proofs.StandingLemmas.{some_same}
use Rattle.tc_world.specs.Cutting.{kept_by}
use Rattle.tc_world.proofs.cutting.forget_at.Goals as goal

pub forget-requires-clause-fits : goal.forget-requires-clause-fits
forget-requires-clause-fits c =
    let ds = c.args.dcs.now.items in
    let d : Store = c.index_mut.result.now in
    let at : slice_get ds c.args.d ≡ Some d = slice_get_read ds (length ds) c.args.d d refl c.requires.there c.index_mut.ensures.value in
    c.requires.fits d at

pub forget-requires-clause-kept : goal.forget-requires-clause-kept
forget-requires-clause-kept c =
    let ds = c.args.dcs.now.items in
    let d : Store = c.index_mut.result.now in
    let at : slice_get ds c.args.d ≡ Some d = slice_get_read ds (length ds) c.args.d d refl c.requires.there c.index_mut.ensures.value in
    c.requires.kept d at

pub returns : goal.returns
returns c = λ e there.
    let ds = c.args.dcs.now.items in
    let d : Store = c.index_mut.result.now in
    let at : slice_get ds c.args.d ≡ Some d = slice_get_read ds (length ds) c.args.d d refl c.requires.there c.index_mut.ensures.value in
    let same : d ≡ e = some_same d e (sym at ∙ there) in
    record {
      t = c.forget.new.dc;
      is = refl;
      forgotten = subst
          (λ (s : Store). HasForgotten (kept_by c.args.low_water c.args.incarnation s) c.forget.new.dc) same
          c.forget.ensures;
    }
