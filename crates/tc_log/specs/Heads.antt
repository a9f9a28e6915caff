-- The events of a log, the oldest first, as heads and what they name: the words of values, and the arguments of calls.
use Rattle.std.specs.Prelude.{◌≡◌, ℕ, zero, suc, ◌+◌, ◌-◌, ◌*◌, ◌≤◌, ◌<◌, Option, IfSome}
use Rattle.std.specs.Prelude.{List, [], ◌∷◌, ◌++◌, length, take, drop, map, replicate, slice_index_or}
use Rattle.std.specs.List.{flat_map}
use Rattle.std.specs.Int.{w64, to_le_bytes, from_le_bytes}
use Rattle.access_slots.specs.declared.slot.Record.{Record}
use Rattle.access_slots.specs.Kinds.{op_of, said_of}
use Rattle.tc_log.specs.declared.event.Event.{Event}
use Rattle.tc_log.specs.declared.event.Event.TheVariants.{Admit, Ask, Answer, Undo, End, Checkpoint}
use Rattle.tc_log.specs.declared.heads.Kind.{Kind}
use Rattle.tc_log.specs.declared.heads.Kind.TheVariants.{Admits, AdmitsMany, Asks, Answers, Undoes}
use Rattle.tc_log.specs.declared.heads.Kind.TheVariants.{Commits, Aborts, LacksRoom, Begins}
use Rattle.tc_log.specs.declared.heads.Head.{Head}
use Rattle.tc_log.specs.declared.event.Outcome.{Outcome}
use Rattle.tc_log.specs.declared.event.Outcome.TheVariants as outcome

-- of values eight bytes each, the lowest first; and arguments
abbrev pub Words : Type 0
Words = List ℕ

abbrev pub Calls : Type 0
Calls = List (List ℕ)

-- these words, and zeros in place of the rest of eight
abbrev pub filled : ℕ → Words → List ℕ
filled count words = flat_map (to_le_bytes w64) words ++ replicate (64 - 8 * count) 0

-- the value whose first words, so many, stand from this place on; the rest are zeros
abbrev pub value_at : Words → ℕ → ℕ → List ℕ
value_at words place count = filled count (take count (drop place words))

-- so many words of eight bytes
abbrev pub words_in : ℕ → List ℕ → Words
words_in zero bytes = []
words_in (suc n) bytes = from_le_bytes w64 (take 8 bytes) ∷ words_in n (drop 8 bytes)

abbrev pub record_of : Head → Record
record_of h = record { dc = h.dc; table = h.table; key = h.key }

abbrev pub head_with : Kind → ℕ → ℕ → Record → ℕ → ℕ → Head
head_with kind txn number r place count = record {
  txn = txn;
  number = number;
  key = r.key;
  place = place;
  dc = r.dc;
  table = r.table;
  kind = kind;
  count = count;
}

abbrev pub event_by : Kind → Head → Words → List ℕ → Event
event_by Admits h words args = Admit h.txn h.number words
event_by AdmitsMany h words args = Admit h.txn h.number args
event_by (Asks kind) h words args = Ask h.txn h.number (op_of kind (record_of h) (filled h.count words))
event_by (Answers kind) h words args = Answer h.txn h.number (said_of kind (filled h.count words))
event_by (Undoes kind) h words args = Undo h.txn h.number (op_of kind (record_of h) (filled h.count words))
event_by Commits h words args = End h.txn outcome.Committed
event_by Aborts h words args = End h.txn (outcome.Aborted h.number)
event_by LacksRoom h words args = End h.txn outcome.NoRoom
event_by Begins h words args = Checkpoint h.txn h.number

-- of a call with more than eight arguments the key is their place
abbrev pub event_of : Words → Calls → Head → Event
event_of words calls h = event_by h.kind h (take h.count (drop h.place words)) (slice_index_or calls h.key [])

abbrev pub events_of : Words → Calls → List Head → List Event
events_of words calls heads = map (event_of words calls) heads

abbrev pub IsCallWithin : ℕ → Kind → ℕ → Type 0
IsCallWithin calls AdmitsMany key = key < calls
IsCallWithin calls _ key = Unit {0}

-- what the head names is among so many words and calls
pub record IsWithin (words calls : ℕ) (h : Head) : Type 0 where
  pub named : h.place + h.count ≤ words
  pub few : h.count ≤ 8
  pub call : IsCallWithin calls h.kind h.key

abbrev pub AllWithin : ℕ → ℕ → List Head → Type 0
AllWithin words calls [] = Unit {0}
AllWithin words calls (h ∷ heads) = IsWithin words calls h × AllWithin words calls heads

-- so many words more, which are this value's, if there is one
pub record IsKept (old new : Words) (value : Option (List ℕ)) (count : ℕ) : Type 0 where
  pub more : Words
  pub is : new ≡ old ++ more
  pub counts : length more ≡ count
  pub few : count ≤ 8
  pub fills : IfSome value (λ v. filled count more ≡ v)

-- the kind and the number of an end
abbrev pub IsEnd : Outcome → Kind → ℕ → Type 0
IsEnd outcome.Committed kind number = kind ≡ Commits
IsEnd (outcome.Aborted v) kind number = (kind ≡ Aborts) × (number ≡ v)
IsEnd outcome.NoRoom kind number = kind ≡ LacksRoom

-- at most eight words and one call more, and the head of this event
pub record IsLaid (words words_new : Words) (calls calls_new : Calls) (e : Event) (h : Head) : Type 0 where
  pub more : Words
  pub is : words_new ≡ words ++ more
  pub few : length more ≤ 8
  pub calls_more : Calls
  pub calls_is : calls_new ≡ calls ++ calls_more
  pub one : length calls_more ≤ 1
  pub within : IsWithin (length words_new) (length calls_new) h
  pub means : event_of words_new calls_new h ≡ e
