-- A transaction component that comes back from its log alone, with new data components.
use Rattle.std.specs.Prelude.{◌≡◌, ℕ, zero, suc, ◌≤◌, true, List, [], ◌∷◌, ◌++◌, length, map, Option, Some, None, slice_get}
use Rattle.request_numbers.specs.Given.{holds}
use Rattle.tc_log.specs.declared.event.Event.{Event}
use Rattle.tc_log.specs.declared.event.Event.TheVariants.{End}
use Rattle.history.specs.Calls.{admitted}
use Rattle.access_slots.specs.Locks.{target}
use Rattle.history.specs.Flight.{Flight, open_op}
use Rattle.history.specs.Places.{StandsAt, Begins}
use Rattle.access_slots.specs.declared.op.Op.{Op}
use Rattle.access_slots.specs.declared.op.Said.{Said}
use Rattle.data_component.specs.Performed.{said_under}
use Rattle.data_component.specs.Store.{Store, restarted}
use Rattle.transactions.specs.declared.Next.TheVariants as next
use Rattle.transactions.specs.Standing.{Standing, standing}
use Rattle.tc_core.specs.Core.{Core, loaded_in}
use Rattle.tc_core.specs.Replies.{next_at}
use Rattle.tc_core.specs.declared.state.Receipt.{Receipt}
use Rattle.tc_core.specs.Recovery.{recovered}
use Rattle.serial.specs.Audit.{IsBegunTogether, base_of}
use Rattle.serial.specs.Serial.{done, HonestFrom}
use Rattle.serial.specs.Lists.{logged, dc_of}
use Rattle.tc_world.specs.Whole.{Whole}
use Rattle.tc_world.specs.Recovery.{StandFor}
use Rattle.tc_world.specs.Lives.{HasLived}
use Rattle.coming_back.specs.Faults.{restart_notes}
use Rattle.coming_back.specs.declared.resumed.Resumed.{Resumed}
use Rattle.coming_back.specs.declared.resumed.Resumed.TheVariants.{Ended, InDoubt}

-- nothing has happened to the data component since the rows with which it begins, if there are any
pub record HasOnlyRows (s : Store) : Type 0 where
  pub list : s.list ≡ []
  pub saved : s.saved ≡ []
  pub mark : s.mark ≡ s.base_mark
  pub saved_mark : s.saved_mark ≡ s.base_mark
  pub never : s.incarnation ≡ 0

-- ---- open transactions

abbrev pub serial_if : ℕ → Option Standing → List ℕ
serial_if t None = []
serial_if t (Some s) = t ∷ []

-- those among the first n
abbrev pub open_to : List Event → ℕ → List ℕ
open_to h zero = []
open_to h (suc n) = open_to h n ++ serial_if (suc n) (standing h (suc n))

-- the serial numbers of the open transactions, rising
abbrev pub open_txns : List Event → List ℕ
open_txns h = open_to h (admitted h)

-- ---- what came of them

abbrev pub serial_of : Resumed → ℕ
serial_of (Ended receipt) = receipt.txn
serial_of (InDoubt t n) = t

abbrev pub doubt_in : Resumed → List ℕ
doubt_in (Ended receipt) = []
doubt_in (InDoubt t n) = t ∷ []

-- the serial numbers of those that are in doubt
abbrev pub in_doubt : List Resumed → List ℕ
in_doubt [] = []
in_doubt (x ∷ xs) = doubt_in x ++ in_doubt xs

-- the end that the receipt tells of stands in the log at its place, behind all of the first log
pub record IsEnded (first : List Event) (c : Core) (receipt : Receipt) : Type 0 where
  pub behind : length first ≤ receipt.place
  pub stands : StandsAt c.events receipt.place (End receipt.txn receipt.outcome)

-- the transaction is open: it waits for this number, which was given up, or it is stuck, this being the last number that it sent
pub data IsLeft (c : Core) (t n : ℕ) : Type 0 where
  GivenUp : next_at c t ≡ Some (next.Waits n) → holds n c.given_up ≡ true → IsLeft c t n
  Stuck : next_at c t ≡ Some (next.Stuck n) → IsLeft c t n

-- this came of a transaction since the first log
abbrev pub IsResumed : List Event → Core → Resumed → Type 0
IsResumed first c (Ended receipt) = IsEnded first c receipt
IsResumed first c (InDoubt t n) = IsLeft c t n

-- the data component of each number that is open and was given up is full, if it is there
abbrev pub AreFullWhereGivenUp : Core → List Store → Type 0
AreFullWhereGivenUp c dcs = (n : ℕ) (f : Flight) (s : Store) → holds n c.given_up ≡ true → open_op c.events n ≡ Some f
    → slice_get dcs (target f.op).dc ≡ Some s → s.ops ≤ length s.list

-- ---- as a world

-- a world of this transaction component and these data components, in which nothing is on its way. What was given up tells which
-- calls can't be admitted, and nothing else
abbrev pub at_rest : Core → List Store → Whole
at_rest c dcs = record { core = record c { given_up = [] }; dcs = dcs; copies = []; replies = []; news = [] }

-- the log is a beginning of that of a world that has lived, with the same procedures, and these data components stand for that world's: they
-- begin with the same records, behind the number behind which the log begins
pub record ComesFrom (w : Whole) (h : List Event) (c : Core) (dcs : List Store) : Type 0 where
  pub lived : HasLived w
  pub begins : Begins h w.core.events
  pub same : loaded_in w.core ≡ loaded_in c
  pub olds : StandFor dcs w.dcs
  pub together : IsBegunTogether h dcs

-- the world that begins again: the state has the log, and each data component has restarted
abbrev pub begins_again : Core → List Event → List Store → Whole
begins_again c h dcs = at_rest (recovered c h (restart_notes (map restarted dcs))) (map restarted dcs)

-- the log is one of data components that begin with these rows, behind the number behind which it begins: each answer is what the operations
-- answered before it left of them, or want of room, and came from a data component that is there
pub record IsOfRows (h : List Event) (dcs : List Store) : Type 0 where
  pub together : IsBegunTogether h dcs
  pub honest : HonestFrom (base_of dcs) h
  pub there : (n : ℕ) (o : Op) (said : Said) → logged h n ≡ Some o → said_under (done h) n ≡ Some said
      → (s : Store) × (slice_get dcs (dc_of o) ≡ Some s)
