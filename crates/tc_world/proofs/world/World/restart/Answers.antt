use Rattle.std.proofs.Common.{◌≡◌, ℕ, ◌<◌, ◌++◌, ◌∷◌, [], List, length, Some, arith, sym, ◌∙◌, ap, subst}
use Rattle.std.specs.Prelude.{◌^◌, nat_le, slice_get}
use Rattle.std.proofs.lemmas.Result.{err_from_is_err_and}
use Rattle.access_slots.specs.declared.op.News.{News}
use Rattle.data_component.specs.Store.{Store}
use Rattle.tc_world.specs.Whole.{Whole}
use Rattle.tc_world.specs.Steps.{MayGo, Goes, restarts}
use Rattle.tc_world.specs.declared.step.Outcome.TheVariants as outcome
use Rattle.tc_world.proofs.Performing.{may_restart, restarts_found}
use Rattle.tc_world.proofs.world.World.restart.Goals as goal

pub returns-in_err-reserve-clause-why : goal.returns-in_err-reserve-clause-why
returns-in_err-reserve-clause-why c =
    let w : Whole = record {
      core = c.self.inside.state;
      dcs = c.self.inside.dcs.items;
      copies = c.self.inside.copies.items;
      replies = c.self.inside.replies.items;
      news = c.self.inside.news.items;
    } in
    let few : c.args.dc < length w.dcs = omega (arith, c.if-dc-len.false, c.len.ensures, c.self.inside.dcs.ok.0) in
    let spent : (s : Store) → slice_get w.dcs c.args.dc ≡ Some s → c.is_spent_at.result ≡ nat_le (2 ^ 62) s.incarnation
    = (λ s at. c.is_spent_at.ensures s (ap (λ (xs : List Store). slice_get xs c.args.dc) c.as_slice.ensures.value ∙ at)) in
    let p = err_from_is_err_and c.from_residual.result c.from_residual.ensures.1 in
    rw (p.1, p.2) (subst (λ (v : Whole). MayGo (restarts v c.args.dc)) c.self.view_is
    (may_restart w c.args.dc c.is_spent_at.result few spent c.if-is_spent_at.false))

pub returns-clause-ok : goal.returns-clause-ok
returns-clause-ok c =
    let w : Whole = record {
      core = c.self.inside.state;
      dcs = c.self.inside.dcs.items;
      copies = c.self.inside.copies.items;
      replies = c.self.inside.replies.items;
      news = c.self.inside.news.items;
    } in
    let few : c.args.dc < length w.dcs = omega (arith, c.if-dc-len.false, c.len.ensures, c.self.inside.dcs.ok.0) in
    let spent : (s : Store) → slice_get w.dcs c.args.dc ≡ Some s → c.is_spent_at.result ≡ nat_le (2 ^ 62) s.incarnation
    = (λ s at. c.is_spent_at.ensures s (ap (λ (xs : List Store). slice_get xs c.args.dc) c.as_slice.ensures.value ∙ at)) in
    let one = restarts_found w c.args.dc c.is_spent_at.result c.restart_at-news.new.dcs.items c.restart_at-news.result
    few spent c.if-is_spent_at.false c.restart_at-news.ensures.news c.restart_at-news.ensures.dcs in
    let news : c.push_reserved.new.self.items ≡ w.news ++ (c.args.dc, c.restart_at-news.result) ∷ []
    = c.push_reserved.ensures.items ∙ ap (λ (xs : List (ℕ × News)). xs ++ (c.args.dc, c.restart_at-news.result) ∷ []) c.reserve.ensures.items in
    let two = ap (λ (xs : List (ℕ × News)). let v : Whole =
    record {
      core = w.core;
      dcs = c.restart_at-news.new.dcs.items;
      copies = w.copies;
      replies = w.replies;
      news = xs;
    } in Goes (outcome.Restarted c.args.dc) v) (sym news) in
    subst (λ (v : Whole). restarts v c.args.dc ≡ Goes (outcome.Restarted c.args.dc)
    (record {
      core = w.core;
      dcs = c.restart_at-news.new.dcs.items;
      copies = w.copies;
      replies = w.replies;
      news = c.push_reserved.new.self.items;
    })) c.self.view_is (one ∙ two)
