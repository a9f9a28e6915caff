-- What a transaction does next: one function, from which all calls on it are read.
use Rattle.std.specs.Prelude.{◌≡◌, ℕ, Bool, true, false, ◌==◌, nat_lt, if◌then◌else◌, List, Option, Some, None}
use Rattle.access_slots.specs.declared.op.Op.{Op}
use Rattle.tc_log.specs.declared.event.Outcome.TheVariants as outcome
use Rattle.tc_log.specs.declared.event.Outcome.{Outcome}
use Rattle.verifier.specs.Checked.{Checked}
use Rattle.transactions.specs.declared.Sent.{Sent}
use Rattle.transactions.specs.declared.Next.{Next}
use Rattle.transactions.specs.declared.Next.TheVariants as next
use Rattle.transactions.specs.Standing.{Standing}
use Rattle.transactions.specs.Reached.{Reached, Asks, Ends, Nowhere, reached}
use Rattle.transactions.specs.Legal.{first_undo}

-- the end, or the next write to be undone, four times at most
abbrev pub ends_or_undoes : Option Op → ℕ → ℕ → Outcome → Next
ends_or_undoes None tries last o = next.Over o
ends_or_undoes (Some w) tries last o = if nat_lt tries 4 then next.Undoes w else next.Stuck last

abbrev pub runs_on : Option Op → ℕ → ℕ → Reached → Option Next
runs_on left tries last (Asks o) = Some (next.Asks o)
runs_on left tries last (Ends v) = Some (if v == 0 then next.Over outcome.Committed else ends_or_undoes left tries last (outcome.Aborted v))
runs_on left tries last Nowhere = None

abbrev pub idles : Bool → Option Op → ℕ → ℕ → Reached → Option Next
idles true left tries last at = Some (ends_or_undoes left tries last outcome.NoRoom)
idles false left tries last at = runs_on left tries last at

abbrev pub next_by : Option Sent → Bool → Option Op → ℕ → ℕ → Reached → Option Next
next_by (Some r) full left tries last at = Some (next.Waits r.number)
next_by None full left tries last at = idles full left tries last at

abbrev pub next_of : List Checked → Standing → Option Next
next_of ps s = next_by s.sent s.full (first_undo s.undo) s.tries s.last (reached ps s)

abbrev pub next_in : List Checked → Option Standing → Option Next
next_in ps None = None
next_in ps (Some s) = next_of ps s
