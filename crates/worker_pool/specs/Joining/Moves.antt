-- What a step for a call does to the answers.
use Rattle.std.specs.Prelude.{◌≡◌, ℕ, List, Option, None, IsSome}
use Rattle.tc_core.specs.Core.{Core, Asking}
use Rattle.worker_pool.specs.declared.answer.Progress.{Progress}
use Rattle.worker_pool.specs.declared.pool_state.Next.{Next}
use Rattle.worker_pool.specs.declared.pool_state.Next.TheVariants.{Begun, Carry, Unanswered, Busy, Over, LeftOut}
use Rattle.worker_pool.specs.Joining.Seen.{IsAnswered, AnswersStay}
use Rattle.worker_pool.specs.Wires.{OnItsWay, IsSentBy}

-- answers stay, and where nothing is left to do the call is answered
abbrev pub MovesOn : List Progress → List Progress → ℕ → Next → Type 0
MovesOn old new k Begun = AnswersStay old new
MovesOn old new k Carry = AnswersStay old new
MovesOn old new k Unanswered = AnswersStay old new
MovesOn old new k Busy = AnswersStay old new
MovesOn old new k Over = IsAnswered new k × AnswersStay old new
MovesOn old new k LeftOut = IsAnswered new k × AnswersStay old new

-- a request is held exactly where something is on its way for it
abbrev pub IsHeldBy : Next → Option Asking → Type 0
IsHeldBy Begun r = r ≡ None
IsHeldBy Carry r = IsSome r
IsHeldBy Unanswered r = IsSome r
IsHeldBy Busy r = r ≡ None
IsHeldBy Over r = r ≡ None
IsHeldBy LeftOut r = r ≡ None

-- where nothing is left to do for the call, it is answered
abbrev pub IsAnsweredBy : List Progress → ℕ → Next → Type 0
IsAnsweredBy ps k Begun = Unit {0}
IsAnsweredBy ps k Carry = Unit {0}
IsAnsweredBy ps k Unanswered = Unit {0}
IsAnsweredBy ps k Busy = Unit {0}
IsAnsweredBy ps k Over = IsAnswered ps k
IsAnsweredBy ps k LeftOut = IsAnswered ps k

-- what a step that goes on with the call leaves on its way is what the state of now has carried
abbrev pub Sends : Core → Next → OnItsWay → Type 0
Sends now Begun s = Unit {0}
Sends now Carry s = IsSentBy now s
Sends now Unanswered s = ⊥
Sends now Busy s = Unit {0}
Sends now Over s = Unit {0}
Sends now LeftOut s = Unit {0}

-- the same; where nothing came back that answers it, that is on its way still which was
abbrev pub GoesOnSending : Core → Next → OnItsWay → OnItsWay → Type 0
GoesOnSending now Begun old new = Unit {0}
GoesOnSending now Carry old new = IsSentBy now new
GoesOnSending now Unanswered old new = new ≡ old
GoesOnSending now Busy old new = Unit {0}
GoesOnSending now Over old new = Unit {0}
GoesOnSending now LeftOut old new = Unit {0}
