use Rattle.std.proofs.Common.{◌≤◌, sym, ◌∙◌, ap, subst, inl, inr}
use Rattle.transactions.specs.Legal.{Legal}
use Rattle.tc_core.specs.Core.{Core}
use Rattle.tc_core.specs.Replies.{after_ask}
use Rattle.coming_back.specs.Joining.Moving.{Moves, IsNextOf, left_of}
use Rattle.coming_back.specs.declared.resuming.Next.TheVariants.{Send}
use Rattle.coming_back.proofs.NextLemmas.{never_running, never_unknown}
use Rattle.coming_back.proofs.MovingLemmas.{ask_moves, ask_sends, ask_near, moves_then}
use Rattle.coming_back.proofs.resuming.next_of.Goals as goal

pub unreachable-requires : goal.unreachable-requires
unreachable-requires c =
    let t = c.args.txn.serial in
    let e = c.ask-asked.ensures in
    elim c.in-Running.is [
      | inl is ↦ never_running c.args.state.now t (sym e.reply ∙ is)
      | inr is ↦ never_unknown c.args.state.now t c.known.ensures.legal c.known.ensures.good c.requires (sym e.reply ∙ is)
    ]

pub returns-in-Request-clause-moves : goal.returns-in-Request-clause-moves
returns-in-Request-clause-moves c = λ ds.
    let t = c.args.txn.serial in
    let e = c.ask-asked.ensures in
    subst (λ (x : Core). Moves t c.args.state.now ds x ds) (sym e.state)
    (ask_moves t c.args.state.now c.ask-asked.result ds e.reply
    (subst (λ (x : Core). Legal x.procs x.events) e.state c.known-2.ensures.legal) c.known.ensures.good)

pub returns-in-Request-clause-next : goal.returns-in-Request-clause-next
returns-in-Request-clause-next c =
    let t = c.args.txn.serial in
    let e = c.ask-asked.ensures in
    subst (λ (x : Core). IsNextOf c.args.state.now.events x t (Send c.in-Request.request)) (sym (e.state ∙ ap (after_ask c.args.state.now) c.in-Request.is))
    (ask_sends t c.args.state.now c.in-Request.request (sym e.reply ∙ c.in-Request.is))

pub returns-in-Request-clause-nearer : goal.returns-in-Request-clause-nearer
returns-in-Request-clause-nearer c =
    let t = c.args.txn.serial in
    let e = c.ask-asked.ensures in
    subst (λ (x : Core). left_of x t ≤ left_of c.args.state.now t) (sym e.state)
    (ask_near t c.args.state.now c.ask-asked.result c.known.ensures.legal c.known.ensures.good e.reply)

pub returns-in-Undoing-clause-moves : goal.returns-in-Undoing-clause-moves
returns-in-Undoing-clause-moves c = λ ds.
    let t = c.args.txn.serial in
    let e = c.ask-asked.ensures in
    moves_then t _ _ _ ds ds ds
    (subst (λ (x : Core). Moves t c.args.state.now ds x ds) (sym e.state)
    (ask_moves t c.args.state.now c.ask-asked.result ds e.reply
    (subst (λ (x : Core). Legal x.procs x.events) e.state c.known-2.ensures.legal) c.known.ensures.good))
    (c.undo.ensures.moves ds)

pub returns-in-Over-clause-moves : goal.returns-in-Over-clause-moves
returns-in-Over-clause-moves c = λ ds.
    let t = c.args.txn.serial in
    let e = c.ask-asked.ensures in
    moves_then t _ _ _ ds ds ds
    (subst (λ (x : Core). Moves t c.args.state.now ds x ds) (sym e.state)
    (ask_moves t c.args.state.now c.ask-asked.result ds e.reply
    (subst (λ (x : Core). Legal x.procs x.events) e.state c.known-2.ensures.legal) c.known.ensures.good))
    (c.end.ensures.moves ds)
