-- One question more is answered at once.
use Rattle.std.proofs.Common.{◌≡◌, ℕ, List, [], ◌∷◌, ◌++◌, subst}
use Rattle.access_slots.specs.declared.op.Reply.{Reply}
use Rattle.tc_core.specs.Core.{Core, Asking}
use Rattle.tc_core.specs.Replies.{ask_reply, after_ask, IsAnswer, after_answer}
use Rattle.tc_core.specs.declared.state.Asked.TheVariants.{Request}
use Rattle.tc_core.specs.AtOnce.{AreAnswered}

pub one_more : (t : ℕ) (c then now : Core) (xs : List Reply) (r : Asking) (x : Reply) → AreAnswered t c xs then
    → ask_reply then t ≡ Request r → IsAnswer (after_ask then (Request r)) r x
    → now ≡ after_answer (after_ask then (Request r)) r x.said → AreAnswered t c (xs ++ x ∷ []) now
one_more t c then now [] r x was asks answers is =
    subst (λ (c : Core). AreAnswered t c (x ∷ []) now) was (r, asks, answers, is)
one_more t c then now (y ∷ xs) r x was asks answers is =
    (was.0, was.1, was.2, one_more t (after_answer (after_ask c (Request was.0)) was.0 y.said) then now xs r x was.3 asks answers is)
