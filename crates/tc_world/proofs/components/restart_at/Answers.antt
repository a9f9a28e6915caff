use Rattle.std.proofs.Common.{◌≡◌, Some, refl, sym, ◌∙◌, ap}
use Rattle.std.specs.Prelude.{◌^◌, length, slice_get, slice_set}
use Rattle.std.proofs.lemmas.Option.{slice_get_read}
use Rattle.data_component.specs.Store.{Store, restarted, news_of}
use Rattle.transactions.proofs.StandingLemmas.{some_same}
use Rattle.tc_world.proofs.Performing.{not_le}
use Rattle.tc_world.proofs.components.restart_at.Goals as goal

pub unreachable-requires : goal.unreachable-requires
unreachable-requires c =
    let ds = c.args.dcs.now.items in
    let d : Store = c.index_mut.result.now in
    let at : slice_get ds c.args.dc ≡ Some d = slice_get_read ds (length ds) c.args.dc d refl c.requires.there c.index_mut.ensures.value in
    not_le (2 ^ 62) d.incarnation (c.in-Err.ensures.spent.0 refl) (c.requires.some d at)

pub returns-clause-news : goal.returns-clause-news
returns-clause-news c = λ e there.
    let ds = c.args.dcs.now.items in
    let d : Store = c.index_mut.result.now in
    let at : slice_get ds c.args.dc ≡ Some d = slice_get_read ds (length ds) c.args.dc d refl c.requires.there c.index_mut.ensures.value in
    let same : d ≡ e = some_same d e (sym at ∙ there) in
    c.in-Ok.ensures.news ∙ (ap news_of c.in-Ok.ensures.ok ∙ ap (λ (s : Store). news_of (restarted s)) same)

pub returns-clause-dcs : goal.returns-clause-dcs
returns-clause-dcs c = λ e there.
    let ds = c.args.dcs.now.items in
    let d : Store = c.index_mut.result.now in
    let at : slice_get ds c.args.dc ≡ Some d = slice_get_read ds (length ds) c.args.dc d refl c.requires.there c.index_mut.ensures.value in
    let same : d ≡ e = some_same d e (sym at ∙ there) in
    ap (slice_set ds c.args.dc) (c.in-Ok.ensures.ok ∙ ap restarted same)
