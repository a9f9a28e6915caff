-- A data component: what it has performed, what its last checkpoint kept, and how it performs a wire, restarts and keeps a
-- checkpoint (Lomet, Fekete, Weikum, Zwilling, CIDR 2009: a data component that fails is restored, and the transaction component
-- sends its operations again).
use Rattle.std.specs.Prelude.{◌≡◌, ℕ, ◌+◌, ◌≤◌, ◌^◌, Bool, nat_lt, nat_le, ◌==◌, ◌&&◌, if◌then◌else◌, List, [], ◌∷◌, length, Option, Some, None}
use Rattle.access_slots.specs.declared.op.Op.{Op}
use Rattle.access_slots.specs.declared.op.Said.{Said}
use Rattle.access_slots.specs.declared.op.Said.TheVariants.{Old}
use Rattle.access_slots.specs.declared.op.Wire.{Wire}
use Rattle.access_slots.specs.declared.op.Reply.{Reply}
use Rattle.access_slots.specs.declared.op.News.{News}
use Rattle.access_slots.specs.declared.slot.Record.{Record}
use Rattle.data_component.specs.Performed.{Performed, value_in, count, said_under, answer, has_room, all_at_most}
use Rattle.data_component.specs.Sorted.{Rows, row_of, SortedRows}

-- the rows with which the list begins, and the mark behind which it does; what was performed since, the newest first, and the low-water
-- mark; the list and mark that the last checkpoint kept; how often it has restarted; how many records and how many operations there may
-- be
pub record Store : Type 0 where
  pub base : Rows
  pub base_mark : ℕ
  pub list : List Performed
  pub mark : ℕ
  pub saved : List Performed
  pub saved_mark : ℕ
  pub incarnation : ℕ
  pub rows : ℕ
  pub ops : ℕ

abbrev pub empty : ℕ → ℕ → Store
empty rows ops = record { base = []; base_mark = 0; list = []; mark = 0; saved = []; saved_mark = 0; incarnation = 0; rows = rows; ops = ops }

-- more records are present than there is room for
abbrev pub is_overfull : Store → Bool
is_overfull s = nat_lt s.rows (count s.base s.list)

-- ---- wires

-- the greater of two marks
abbrev pub raised : ℕ → ℕ → ℕ
raised mark low_water = if nat_le mark low_water then low_water else mark

abbrev pub marked : Store → ℕ → Store
marked s low_water = record s { mark = raised s.mark low_water }

-- what becomes of a wire
pub data Fate : Type 0 where
  -- its number is at or under the mark
  IsOld : Fate
  -- its number was performed before, and was told this
  Again : Said → Fate
  -- there is no room for a further operation
  Silent : Fate
  -- it is performed, and told this
  New : Said → Fate

abbrev pub fate_of_new : Store → Bool → Op → Fate
fate_of_new s redo o = if nat_lt (length s.list) s.ops then New (answer (has_room s.rows redo s.base s.list) s.base s.list o) else Silent

abbrev pub fate_above : Option Said → Store → Bool → Op → Fate
fate_above (Some said) s redo o = Again said
fate_above None s redo o = fate_of_new s redo o

-- with the mark raised
abbrev pub fate : Store → ℕ → Bool → Op → Fate
fate s n redo o = if nat_le n s.mark then IsOld else fate_above (said_under s.list n) s redo o

-- a reply is of the incarnation that says it
abbrev pub reply_as : Store → ℕ → Said → Option Reply
reply_as s n said = Some (record { number = n; incarnation = s.incarnation; said = said })

abbrev pub reply_by : Store → ℕ → Fate → Option Reply
reply_by s n IsOld = reply_as s n Old
reply_by s n (Again said) = reply_as s n said
reply_by s n Silent = None
reply_by s n (New said) = reply_as s n said

abbrev pub store_by : Store → ℕ → Op → Fate → Store
store_by s n o IsOld = s
store_by s n o (Again said) = s
store_by s n o Silent = s
store_by s n o (New said) = record s { list = (n, o, said) ∷ s.list }

abbrev pub fate_of : Store → Wire → Fate
fate_of s w = fate (marked s w.low_water) w.number w.redo w.op

-- what is replied to a wire, and the store behind it; to a wire for another incarnation nothing is replied, and nothing is done
abbrev pub replied : Store → Wire → Option Reply
replied s w = if s.incarnation == w.incarnation then reply_by s w.number (fate_of s w) else None

abbrev pub performed : Store → Wire → Store
performed s w = if s.incarnation == w.incarnation then store_by (marked s w.low_water) w.number w.op (fate_of s w) else s

-- ---- checkpoints and restarts

abbrev pub checkpointed : Store → Store
checkpointed s = record s { saved = s.list; saved_mark = s.mark }

-- 2^62 incarnations are over
abbrev pub IsSpent : Store → Type 0
IsSpent s = 2 ^ 62 ≤ s.incarnation

-- what the last checkpoint kept is all that is left
abbrev pub restarted : Store → Store
restarted s = record s { list = s.saved; mark = s.saved_mark; incarnation = s.incarnation + 1 }

abbrev pub news_of : Store → News
news_of s = record { incarnation = s.incarnation; mark = s.mark }

-- ---- a low-water mark by itself, and what is forgotten (the same paper: request IDs at or under the mark aren't sent again)

-- a low-water mark that was told with no wire, of an incarnation
abbrev pub heard : Store → ℕ → ℕ → Store
heard s incarnation low_water = if s.incarnation == incarnation then marked s low_water else s

-- whether the last checkpoint has all that was performed, each number is at or under the mark that it kept, and no more records are present
-- than there may be
abbrev pub may_forget : Store → Bool
may_forget s = (length s.saved == length s.list) && nat_le (count s.base s.list) s.rows && all_at_most s.saved_mark s.list

-- nothing has been performed since these rows, with which the list begins behind this mark
abbrev pub begun_with : Rows → ℕ → Store → Store
begun_with rows mark s = record s { base = rows; base_mark = mark; mark = mark; saved_mark = mark }

-- nothing has been performed here, no higher mark was told, and the rows rise and are no more than there may be
pub record MayBeginWith (rows : Rows) (mark : ℕ) (s : Store) : Type 0 where
  pub none : s.list ≡ []
  pub low : s.mark ≤ mark
  pub fits : length rows ≤ s.rows
  pub sorted : SortedRows rows

-- the list is empty, and begins with the rows that it left, behind the mark of the checkpoint, which had all of it
pub record HasForgotten (s t : Store) : Type 0 where
  pub all : s.saved ≡ s.list
  pub low : s.saved_mark ≤ s.mark
  pub sorted : SortedRows t.base
  pub values : (r : Record) → row_of t.base r ≡ value_in s.base s.list r
  pub count : length t.base ≡ count s.base s.list
  pub rest : t ≡ record s { base = t.base; base_mark = s.saved_mark; list = []; saved = [] }
