-- What open transactions may still do.
use Rattle.std.specs.Prelude.{ℕ, ◌+◌, ◌-◌, ◌*◌, zero, suc, Bool, true, false, List, length, Option, Some, None}
use Rattle.tc_log.specs.declared.event.Event.{Event}
use Rattle.verifier.specs.Checked.{Checked}
use Rattle.history.specs.Calls.{admitted}
use Rattle.transactions.specs.declared.Sent.{Sent}
use Rattle.transactions.specs.Standing.{Standing, standing}
use Rattle.transactions.specs.Reached.{calls}

abbrev pub one_if : Bool → ℕ
one_if true = 1
one_if false = 0

abbrev pub one_unless : Bool → ℕ
one_unless true = 0
one_unless false = 1

abbrev pub one_sent : Option Sent → ℕ
one_sent None = 0
one_sent (Some r) = 1

-- one where a question of the procedure is open
abbrev pub one_own : Option Sent → ℕ
one_own None = 0
one_own (Some r) = one_unless r.undoing

-- how often its procedure has asked
abbrev pub asks_of : Standing → ℕ
asks_of s = length s.answers + one_own s.sent + one_if s.full

-- how many more numbers it may be given: five for each call slot in all, one to ask and four to undo
abbrev pub numbers_left : List Checked → Standing → ℕ
numbers_left ps s = 5 * calls ps s.call.proc - s.used

-- how many more events it may log: two for each number, and its end
abbrev pub events_left : List Checked → Standing → ℕ
events_left ps s = 2 * numbers_left ps s + one_sent s.sent + 1

-- how many more numbers it may have open at once
abbrev pub places_left : Standing → ℕ
places_left s = 1 - one_sent s.sent

abbrev pub each_one : Standing → ℕ
each_one s = 1

abbrev pub weighed : (Standing → ℕ) → Option Standing → ℕ
weighed w None = 0
weighed w (Some s) = w s

-- the sum over the transactions 1 to n
abbrev pub total_to : (Standing → ℕ) → List Event → ℕ → ℕ
total_to w h zero = 0
total_to w h (suc n) = total_to w h n + weighed w (standing h (suc n))

-- the sum over the open transactions
unfoldable pub total : (Standing → ℕ) → List Event → ℕ
total w h = total_to w h (admitted h)
