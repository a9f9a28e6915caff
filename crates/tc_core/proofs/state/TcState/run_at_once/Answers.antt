use Rattle.std.proofs.Common.{[], ◌∷◌, ◌++◌, refl, sym}
use Rattle.tc_core.specs.AtOnce.{HasRunAtOnce}
use Rattle.tc_core.specs.Replies.{after_ask}
use Rattle.tc_core.specs.declared.state.Asked.TheVariants.{Request}
use Rattle.tc_core.proofs.AtOnceLemmas.{one_more}
use Rattle.tc_core.proofs.state.TcState.run_at_once.Goals as goal

pub ask_at_once-requires : goal.ask_at_once-requires
ask_at_once-requires g c = λ r w asks legal made.
    let was = c.questions.invariant in
    let then = c.questions.self in
    let ran : HasRunAtOnce c.args.txn.serial c.args.self.now (after_ask then (Request r)) (Request r) = record {
      replies = was.0;
      then = then;
      answered = was.1;
      asks = sym asks;
      state = refl;
    } in
    c.requires (after_ask then (Request r)) r w ran legal made

pub questions-preserved : goal.questions-preserved
questions-preserved g c =
    let was = c.questions.invariant in
    let did = c.if-not-ask_at_once.ensures.answered refl in (
      was.0 ++ did.x ∷ [],
      one_more c.args.txn.serial c.args.self.now c.questions.self c.ask_at_once.new.self was.0 did.r did.x was.1 did.asks did.answers did.state,
    )
