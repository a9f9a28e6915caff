-- Which calls wait for transactions that nobody answers any more.
use Rattle.std.specs.Prelude.{◌≡◌, ℕ, Bool, true, false, List, Option, Some, None}
use Rattle.access_slots.specs.declared.slot.Record.{Record}
use Rattle.access_slots.specs.Held.{in_the_way}
use Rattle.request_numbers.specs.Given.{holds}
use Rattle.history.specs.Calls.{Call, held, locks_of}
use Rattle.transactions.specs.declared.Next.{Next}
use Rattle.transactions.specs.declared.Next.TheVariants as next
use Rattle.transactions.specs.Reached.{decls}
use Rattle.tc_core.specs.Core.{Core}
use Rattle.tc_core.specs.Replies.{next_at}
use Rattle.tc_core.specs.Admission.{Takes}

-- it is in doubt, since it waits for a number that was given up, or stuck, since a write can't be undone
abbrev pub stranded_by : List ℕ → Option Next → Bool
stranded_by given_up None = false
stranded_by given_up (Some (next.Waits n)) = holds n given_up
stranded_by given_up (Some (next.Asks o)) = false
stranded_by given_up (Some (next.Undoes o)) = false
stranded_by given_up (Some (next.Stuck n)) = true
stranded_by given_up (Some (next.Over o)) = false

abbrev pub is_stranded : Core → ℕ → Bool
is_stranded c t = stranded_by c.given_up (next_at c t)

-- the transaction holds a lock on this record that the call's excludes
abbrev pub stands_in_the_way : Core → Call → Record → ℕ → Bool
stands_in_the_way c call r t = in_the_way (held (decls c.procs) c.events) (locks_of (decls c.procs) call) r t

-- others stand in the way, and each of them is in doubt or stuck
pub record IsBlocked (c : Core) (call : Call) : Type 0 where
  pub takes : Takes c call
  pub name : Record
  pub holder : ℕ
  pub stands : stands_in_the_way c call name holder ≡ true
  pub stranded : (r : Record) (t : ℕ) → stands_in_the_way c call r t ≡ true → is_stranded c t ≡ true
