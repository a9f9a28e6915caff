-- What is done for one transaction that is resumed.
use Rattle.std.specs.Prelude.{◌≡◌, ◌≢◌, ℕ, ◌<◌, ◌≤◌, true, List, map, Some, None}
use Rattle.std.specs.List.{All}
use Rattle.request_numbers.specs.Given.{holds}
use Rattle.tc_log.specs.declared.event.Event.{Event}
use Rattle.history.specs.Calls.{admitted}
use Rattle.history.specs.Places.{Begins}
use Rattle.data_component.specs.Store.{Store}
use Rattle.transactions.specs.declared.Next.TheVariants as next
use Rattle.transactions.specs.declared.Sent.{Sent}
use Rattle.transactions.specs.Standing.{Standing, standing}
use Rattle.transactions.specs.Room.{weighed, events_left}
use Rattle.tc_core.specs.Core.{Core}
use Rattle.tc_core.specs.Replies.{next_at}
use Rattle.tc_core.specs.GivingUp.{IsOpenHere}
use Rattle.coming_back.specs.declared.resumed.Resumed.{Resumed}
use Rattle.coming_back.specs.declared.resuming.Next.{Next}
use Rattle.coming_back.specs.declared.resuming.Next.TheVariants.{Send, Ended, Stuck}
use Rattle.coming_back.specs.Serving.{AreServed}
use Rattle.coming_back.specs.Joining.LivingOn.{LivesOn}
use Rattle.coming_back.specs.Joining.Quiet.{IsQuiet}
use Rattle.coming_back.specs.Coming.{at_rest, serial_if, open_to, serial_of, in_doubt, IsEnded, IsResumed}

-- of the state nothing changes but the log, which grows by events of transactions that were admitted, and which numbers are given up
pub record Goes (c : Core) (dcs : List Store) (c' : Core) (dcs' : List Store) : Type 0 where
  pub core : c' ≡ record c { events = c'.events; given_up = c'.given_up }
  pub begins : Begins c.events c'.events
  pub count : admitted c'.events ≡ admitted c.events
  pub served : AreServed dcs dcs'
  pub lived : LivesOn (at_rest c dcs) (at_rest c' dcs')
  pub quiet : IsQuiet c dcs → IsQuiet c' dcs'

-- a number that was given up, and that another transaction than this one waits for, stays so
abbrev pub StaysGivenUp : ℕ → Core → Core → Type 0
StaysGivenUp t c c' = (u : ℕ) (s : Standing) (r : Sent) → u ≢ t → standing c.events u ≡ Some s → s.sent ≡ Some r
    → holds r.number c.given_up ≡ true → holds r.number c'.given_up ≡ true

-- the same for one transaction: all others stand as before, and are in doubt where they were
pub record Moves (t : ℕ) (c : Core) (dcs : List Store) (c' : Core) (dcs' : List Store) : Type 0 where
  pub goes : Goes c dcs c' dcs'
  pub others : (u : ℕ) → u ≢ t → standing c'.events u ≡ standing c.events u
  pub given_up : StaysGivenUp t c c'

-- how many more events the transaction may log
unfoldable pub left_of : Core → ℕ → ℕ
left_of c t = weighed (events_left c.procs) (standing c.events t)

pub record IsOpen (c : Core) (t : ℕ) : Type 0 where
  pub s : Standing
  pub is : standing c.events t ≡ Some s

-- a request of the transaction is open, or it ended behind the first log, or it is stuck
abbrev pub IsNextOf : List Event → Core → ℕ → Next → Type 0
IsNextOf first c t (Send r) = (r.txn ≡ t) × IsOpenHere c r
IsNextOf first c t (Ended receipt) = (receipt.txn ≡ t) × IsEnded first c receipt × (standing c.events t ≡ None)
IsNextOf first c t (Stuck n) = next_at c t ≡ Some (next.Stuck n)

-- what came of a transaction, told by one item, or by none where it wasn't open: it is open still where it is in doubt
pub record CameOf (c c' : Core) (t : ℕ) (xs : List Resumed) : Type 0 where
  pub serials : map serial_of xs ≡ serial_if t (standing c.events t)
  pub doubts : in_doubt xs ≡ serial_if t (standing c'.events t)
  pub each : All (λ (x : Resumed). (serial_of x ≡ t) × IsResumed c.events c' x) xs

-- what came of the transactions up to n; the others stand as they did
pub record CameOfAll (c : Core) (dcs : List Store) (c' : Core) (dcs' : List Store) (n : ℕ) (xs : List Resumed) : Type 0 where
  pub goes : Goes c dcs c' dcs'
  pub ahead : (u : ℕ) → n < u → standing c'.events u ≡ standing c.events u
  pub serials : map serial_of xs ≡ open_to c.events n
  pub doubts : in_doubt xs ≡ open_to c'.events n
  pub each : All (λ (x : Resumed). (serial_of x ≤ n) × IsResumed c.events c' x) xs
