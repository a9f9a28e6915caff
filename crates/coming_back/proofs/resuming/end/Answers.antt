use Rattle.std.proofs.Common.{◌≤◌, refl, sym, ◌∙◌, subst}
use Rattle.transactions.specs.Legal.{Legal}
use Rattle.tc_core.specs.Core.{Core}
use Rattle.tc_core.specs.Replies.{end_of}
use Rattle.coming_back.specs.Joining.Moving.{Moves, IsNextOf, left_of}
use Rattle.coming_back.specs.declared.resuming.Next.TheVariants.{Ended}
use Rattle.coming_back.proofs.MovingLemmas.{end_moves, end_tells, end_near}
use Rattle.coming_back.proofs.resuming.end.Goals as goal

pub returns-clause-moves : goal.returns-clause-moves
returns-clause-moves c = λ ds.
    let t = c.args.txn.serial in
    let e = c.end-ended.ensures.state in
    subst (λ (x : Core). Moves t c.args.state.now ds x ds) (sym e)
    (end_moves t c.args.state.now (end_of c.args.state.now t) ds refl
    (subst (λ (x : Core). Legal x.procs x.events) e c.known-2.ensures.legal) c.known.ensures.good)

pub returns-clause-next : goal.returns-clause-next
returns-clause-next c =
    let t = c.args.txn.serial in
    subst (λ (x : Core). IsNextOf c.args.state.now.events x t (Ended c.in-Ok.receipt)) (sym c.end-ended.ensures.state)
    (end_tells t c.args.state.now (end_of c.args.state.now t) c.in-Ok.receipt (sym c.in-Ok.is ∙ c.end-ended.ensures.reply))

pub returns-clause-nearer : goal.returns-clause-nearer
returns-clause-nearer c =
    let t = c.args.txn.serial in
    subst (λ (x : Core). left_of x t ≤ left_of c.args.state.now t) (sym c.end-ended.ensures.state) (end_near t c.args.state.now (end_of c.args.state.now t))
