use Rattle.std.proofs.Common.{sym, ◌∙◌, ap, subst}
use Rattle.std.proofs.lemmas.Result.{err_from_is_err_and}
use Rattle.tc_world.specs.Whole.{Whole}
use Rattle.tc_world.specs.Steps.{MayGo, redoes, redoes_by}
use Rattle.tc_world.proofs.world.World.redo.Goals as goal

pub returns-in_err-reserve-in-Send-clause-why : goal.returns-in_err-reserve-in-Send-clause-why
returns-in_err-reserve-in-Send-clause-why c =
    let w : Whole = record {
      core = c.self.inside.state;
      dcs = c.self.inside.dcs.items;
      copies = c.self.inside.copies.items;
      replies = c.self.inside.replies.items;
      news = c.self.inside.news.items;
    } in
    let p = err_from_is_err_and c.from_residual.result c.from_residual.ensures.1 in
    rw (p.1, p.2) (subst (λ (v : Whole). MayGo (redoes v c.args.dc)) c.self.view_is
    (_, _, ap (redoes_by w c.args.dc) (sym c.redo_next.ensures.reply ∙ c.in-Send.is)))
