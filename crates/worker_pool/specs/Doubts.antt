-- Which transactions are in doubt, and what one that is open is told.
use Rattle.std.specs.Prelude.{◌≡◌, ℕ, Some}
use Rattle.transactions.specs.declared.Next.TheVariants as next
use Rattle.tc_core.specs.Core.{Core}
use Rattle.tc_core.specs.Replies.{next_at}
use Rattle.tc_core.specs.declared.state.Asked.{Asked}
use Rattle.tc_core.specs.declared.state.Asked.TheVariants.{Request, Undoing, Over, Stuck, Waits, Running, Unknown}

-- what is next for the transaction is to wait for this number, or it is stuck, this being the last number that it sent
pub data IsDoubtful (c : Core) (t n : ℕ) : Type 0 where
  waits : next_at c t ≡ Some (next.Waits n) → IsDoubtful c t n
  stuck : next_at c t ≡ Some (next.Stuck n) → IsDoubtful c t n

-- it asks, is to be undone, is over, is stuck or waits
abbrev pub IsGoing : Asked → Type 0
IsGoing (Request r) = Unit {0}
IsGoing Undoing = Unit {0}
IsGoing Over = Unit {0}
IsGoing (Stuck n) = Unit {0}
IsGoing (Waits n) = Unit {0}
IsGoing Running = ⊥
IsGoing Unknown = ⊥
