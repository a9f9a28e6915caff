-- What the state keeps: the log is legal, and everything else is what the log says.
use Rattle.std.specs.Prelude.{◌≡◌, ℕ, ◌<◌, ◌+◌, ◌-◌, ◌*◌, ◌≤◌, ◌^◌, Bool, true, false, Option, Some, None}
use Rattle.std.specs.Prelude.{List, [], ◌∷◌, length, reverse, take, slice_get}
use Rattle.verifier.specs.Checked.{Checked}
use Rattle.lock_table.specs.Facts.{Table, AreHeld}
use Rattle.request_numbers.specs.Given.{Given}
use Rattle.tc_log.specs.declared.event.Event.{Event}
use Rattle.tc_log.specs.declared.event.Event.TheVariants.{Ask, Undo}
use Rattle.tc_log.specs.History.{History}
use Rattle.history.specs.Calls.{admitted, held}
use Rattle.history.specs.Flight.{given, open_numbers}
use Rattle.history.specs.Anew.{begun}
use Rattle.transactions.specs.Standing.{Standing, standing}
use Rattle.transactions.specs.Reached.{decls, calls_in, AllGood}
use Rattle.transactions.specs.Room.{numbers_left, events_left, places_left, each_one, total}
use Rattle.transactions.specs.Legal.{Legal}
use Rattle.slab.specs.Slab.{Slab, get, slab_len}
use Rattle.tc_core.specs.Running.{Runs}
use Rattle.request_numbers.specs.Given.{holds}
use Rattle.transactions.specs.declared.Sent.{Sent}
use Rattle.transactions.specs.declared.Redoing.{Redoing}
use Rattle.transactions.specs.declared.Site.{Site}
use Rattle.tc_core.specs.Core.{Core}
use Rattle.tc_core.specs.Doubts.{AreOnce}
use Rattle.tc_core.specs.Loaded.{Loaded}
use Rattle.tc_core.specs.AtKey.{StandsAt}
use Rattle.tc_core.specs.declared.transaction.Tx.{Tx}
use Rattle.tc_core.specs.declared.book.Book.{Book}

-- an open transaction of this procedure is kept as it stands
pub record Keeps (q : Checked) (tx : Tx) (s : Standing) : Type 0 where
  pub proc : tx.proc ≡ s.call.proc
  pub sent : tx.sent ≡ s.sent
  pub full : tx.full ≡ s.full
  pub undo : tx.undo.ops ≡ s.undo
  pub tries : tx.tries ≡ s.tries
  pub last : tx.last ≡ s.last
  pub left : tx.left ≡ 5 * calls_in q - s.used
  pub room : calls_in q ≤ length tx.undo.ops + tx.undo.room
  pub runs : Runs q tx s.call.args s.answers

pub record Matches (ps : List Checked) (tx : Tx) (s : Standing) : Type 0 where
  pub q : Checked
  pub loaded : slice_get ps s.call.proc ≡ Some q
  pub keeps : Keeps q tx s

-- what is kept at a key is open, and stands so
pub record IsOpen (ps : List Checked) (h : List Event) (tx : Tx) : Type 0 where
  pub s : Standing
  pub is : standing h tx.serial ≡ Some s
  pub matches : Matches ps tx s

-- an open transaction has a key
pub record HasKey (txns : Slab Tx) (t : ℕ) : Type 0 where
  pub key : ℕ
  pub at : StandsAt txns key t

-- each key has an open transaction, and each open transaction one key
pub record Places (ps : List Checked) (h : List Event) (txns : Slab Tx) : Type 0 where
  pub stands : (key : ℕ) (tx : Tx) → get txns key ≡ Some tx → IsOpen ps h tx
  pub each : (t : ℕ) (s : Standing) → standing h t ≡ Some s → HasKey txns t
  pub once : (key other : ℕ) (tx ty : Tx) → get txns key ≡ Some tx → get txns other ≡ Some ty → tx.serial ≡ ty.serial → key ≡ other

-- the counts are those of the log, and there is room for what open transactions may still do
pub record Rooms (ps : List Checked) (log : History) (numbers : Given) (txns : Slab Tx) (owed promised : ℕ) : Type 0 where
  pub count : slab_len txns ≡ total each_one log.events
  pub owed_is : owed ≡ total (events_left ps) log.events
  pub promised_is : promised ≡ total (numbers_left ps) log.events
  pub places : total places_left log.events ≤ numbers.room
  pub events : owed ≤ log.room
  pub numbers_fit : given log.events + promised ≤ 2 ^ 62

pub record Kept (ps : List Checked) (log : History) (table : Table) (numbers : Given) (txns : Slab Tx)
    (serials owed promised : ℕ) : Type 0 where
  pub legal : Legal ps log.events
  pub good : AllGood ps
  pub places : Places ps log.events txns
  pub serials_are : serials ≡ admitted log.events
  pub locks_are : AreHeld table (held (decls ps) log.events)
  pub last_is : numbers.last ≡ given log.events
  pub pending_is : numbers.pending ≡ open_numbers log.events
  pub rooms : Rooms ps log numbers txns owed promised

-- it waits for a number that was given up
abbrev pub is_doubted : List ℕ → Option Sent → Bool
is_doubted numbers None = false
is_doubted numbers (Some r) = holds r.number numbers

-- each transaction in doubt is marked, and no other; the numbers that are given up are distinct, and open
pub record Marked (numbers : List ℕ) (h : List Event) (txns : Slab Tx) : Type 0 where
  pub marks : (key : ℕ) (tx : Tx) → get txns key ≡ Some tx → tx.in_doubt ≡ is_doubted numbers tx.sent
  pub early : (n : ℕ) → given h < n → holds n numbers ≡ false
  pub once : AreOnce (given h) numbers
  pub open_yet : (n : ℕ) → holds n numbers ≡ true → holds n (open_numbers h) ≡ true

-- each number sent in these events is at most this one
abbrev pub AreSentUpTo : ℕ → List Event → Type 0
AreSentUpTo n [] = Unit {0}
AreSentUpTo n (Ask t m o ∷ es) = (m ≤ n) × AreSentUpTo n es
AreSentUpTo n (Undo t m o ∷ es) = (m ≤ n) × AreSentUpTo n es
-- no other sends one
AreSentUpTo n (_ ∷ es) = AreSentUpTo n es

-- a data component's redo needs not look at the log, oldest event first, before its place
abbrev pub MayBegin : List Event → ℕ → Option Redoing → Type 0
MayBegin h place None = Unit {0}
MayBegin h place (Some r) = AreSentUpTo r.redone (take place (reverse h))

-- each data component has such a place
pub record AreStarts (sites : List Site) (starts : List ℕ) (h : List Event) : Type 0 where
  pub count : length starts ≡ length sites
  pub inside : (d place : ℕ) → slice_get starts d ≡ Some place → place ≤ length h
  pub begin : (d place : ℕ) (s : Site) → slice_get starts d ≡ Some place → slice_get sites d ≡ Some s → MayBegin h place s.redo

-- what is kept of these procedures' log
pub record IsBook (ps : List Checked) (b : Book) : Type 0 where
  pub kept : Kept ps b.log b.locks b.numbers b.txns b.serials b.owed b.promised
  pub from : b.given_up.from ≡ begun b.log.events
  pub doubts : slab_len b.txns ≤ b.given_up.room
  pub marked : Marked b.given_up.numbers b.log.events b.txns
  pub starts : AreStarts b.sites.items b.starts.items b.log.events

abbrev pub core_of : Loaded → Book → Core
core_of p b = record {
  procs = p.codes;
  names = p.names;
  dcs = p.dcs;
  events = b.log.events;
  given_up = b.given_up.numbers;
  sites = b.sites.items;
}
