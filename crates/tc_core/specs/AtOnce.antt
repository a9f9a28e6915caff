-- What a transaction comes to whose questions are answered at once.
use Rattle.std.specs.Prelude.{◌≡◌, ℕ, List, [], ◌∷◌, Ok}
use Rattle.access_slots.specs.declared.op.Reply.{Reply}
use Rattle.access_slots.specs.declared.op.Wire.{Wire}
use Rattle.transactions.specs.Legal.{Legal}
use Rattle.tc_core.specs.Core.{Core, Asking}
use Rattle.tc_core.specs.Lent.{wire_of}
use Rattle.tc_core.specs.Replies.{ask_reply, after_ask, IsAnswer, after_answer}
use Rattle.tc_core.specs.declared.state.Asked.{Asked}
use Rattle.tc_core.specs.declared.state.Asked.TheVariants.{Request}

-- these replies answered what it asked, one after the other, and then the state was the last one
abbrev pub AreAnswered : ℕ → Core → List Reply → Core → Type 0
AreAnswered t c [] then = then ≡ c
AreAnswered t c (x ∷ xs) then = (r : Asking) × (ask_reply c t ≡ Request r) × IsAnswer (after_ask c (Request r)) r x
    × AreAnswered t (after_answer (after_ask c (Request r)) r x.said) xs then

-- what `ask` and `answer` give, one after the other, and at last what `ask` gives
pub record HasRunAtOnce (t : ℕ) (c now : Core) (asked : Asked) : Type 0 where
  pub replies : List Reply
  pub then : Core
  pub answered : AreAnswered t c replies then
  pub asks : asked ≡ ask_reply then t
  pub state : now ≡ after_ask then asked

-- whatever it asks so, what the state makes of it then is such a wire
abbrev pub IsAllSent : (Wire → Type 0) → ℕ → Core → Type 0
IsAllSent sent t c = (now : Core) (r : Asking) (w : Wire) → HasRunAtOnce t c now (Request r) → Legal now.procs now.events → wire_of now r ≡ Ok w
    → sent w
