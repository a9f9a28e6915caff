use Rattle.std.proofs.Common.{◌≤◌, sym, ◌∙◌, ap, subst}
use Rattle.transactions.specs.Legal.{Legal}
use Rattle.tc_core.specs.Core.{Core}
use Rattle.tc_core.specs.Replies.{after_undo}
use Rattle.coming_back.specs.Joining.Moving.{Moves, IsNextOf, left_of}
use Rattle.coming_back.specs.declared.resuming.Next.TheVariants.{Send}
use Rattle.coming_back.proofs.MovingLemmas.{undo_moves, undo_sends, undo_near}
use Rattle.coming_back.proofs.resuming.undo.Goals as goal

pub returns-clause-moves : goal.returns-clause-moves
returns-clause-moves c = λ ds.
    let t = c.args.txn.serial in
    let e = c.undo_next-asked.ensures in
    subst (λ (x : Core). Moves t c.args.state.now ds x ds) (sym e.state)
    (undo_moves t c.args.state.now c.undo_next-asked.result ds e.reply
    (subst (λ (x : Core). Legal x.procs x.events) e.state c.known-2.ensures.legal) c.known.ensures.good)

pub returns-clause-next : goal.returns-clause-next
returns-clause-next c =
    let t = c.args.txn.serial in
    let e = c.undo_next-asked.ensures in
    subst (λ (x : Core). IsNextOf c.args.state.now.events x t (Send c.in-Request.request)) (sym (e.state ∙ ap (after_undo c.args.state.now) c.in-Request.is))
    (undo_sends t c.args.state.now c.in-Request.request (sym e.reply ∙ c.in-Request.is))

pub returns-clause-nearer : goal.returns-clause-nearer
returns-clause-nearer c =
    let t = c.args.txn.serial in
    let e = c.undo_next-asked.ensures in
    subst (λ (x : Core). left_of x t ≤ left_of c.args.state.now t) (sym e.state)
    (undo_near t c.args.state.now c.undo_next-asked.result c.known.ensures.legal c.known.ensures.good e.reply)
