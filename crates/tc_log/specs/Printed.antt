-- Events as 96 bytes.
use Rattle.std.specs.Prelude.{ℕ, ◌-◌, ◌*◌, ◌==◌, nat_le, if◌then◌else◌, List, [], ◌∷◌, ◌++◌, length, replicate, Option, Some, None}
use Rattle.std.specs.List.{flat_map}
use Rattle.std.specs.Int.{w16, w64, to_le_bytes}
use Rattle.access_slots.specs.declared.slot.Record.{Record}
use Rattle.access_slots.specs.declared.op.Op.{Op}
use Rattle.access_slots.specs.declared.op.Op.TheVariants.{Read, Insert, Update, Delete}
use Rattle.access_slots.specs.declared.op.Said.{Said}
use Rattle.access_slots.specs.declared.op.Said.TheVariants.{Value, Absent, Done, Duplicate, Missing, NoRoom, Old}
use Rattle.tc_log.specs.declared.event.Event.{Event}
use Rattle.tc_log.specs.declared.event.Event.TheVariants.{Admit, Ask, Answer, Undo, End, Checkpoint}
use Rattle.tc_log.specs.declared.event.Outcome.{Outcome}
use Rattle.tc_log.specs.declared.event.Outcome.TheVariants as outcome

-- what stands in the 96 bytes: kind and sub, data component and table, transaction, a word, a key, and 64 bytes
pub record Cells : Type 0 where
  pub kind : ℕ
  pub sub : ℕ
  pub dc : ℕ
  pub table : ℕ
  pub txn : ℕ
  pub word : ℕ
  pub key : ℕ
  pub body : List ℕ

abbrev pub zeros : ℕ → List ℕ
zeros n = replicate n 0

-- numbers are little-endian: at 0, 1, 2 and 4, and two zeros
unfoldable pub head_bytes : ℕ → ℕ → ℕ → ℕ → List ℕ
head_bytes kind sub dc table = (((kind ∷ sub ∷ []) ++ to_le_bytes w16 dc) ++ to_le_bytes w16 table) ++ zeros 2

-- at 8, 16 and 24
unfoldable pub number_bytes : ℕ → ℕ → ℕ → List ℕ
number_bytes txn word key = (to_le_bytes w64 txn ++ to_le_bytes w64 word) ++ to_le_bytes w64 key

-- and at 32
abbrev pub cells_bytes : Cells → List ℕ
cells_bytes c = (head_bytes c.kind c.sub c.dc c.table ++ number_bytes c.txn c.word c.key) ++ c.body

-- with neither record nor value
abbrev pub plain : ℕ → ℕ → ℕ → ℕ → Cells
plain kind sub txn word = record { kind = kind; sub = sub; dc = 0; table = 0; txn = txn; word = word; key = 0; body = zeros 64 }

abbrev pub with_value : ℕ → ℕ → ℕ → ℕ → List ℕ → Cells
with_value kind sub txn word value = record (plain kind sub txn word) { body = value }

abbrev pub of_record : Record → Cells → Cells
of_record r c = record c { dc = r.dc; table = r.table; key = r.key }

-- an operation asked for (2) or to undo (4)
abbrev pub op_cells : ℕ → ℕ → ℕ → Op → Cells
op_cells kind txn number (Read r) = of_record r (plain kind 1 txn number)
op_cells kind txn number (Insert r v) = of_record r (with_value kind 2 txn number v)
op_cells kind txn number (Update r v) = of_record r (with_value kind 3 txn number v)
op_cells kind txn number (Delete r) = of_record r (plain kind 4 txn number)

-- the answer Old is never logged
abbrev pub said_cells : ℕ → ℕ → Said → Option Cells
said_cells txn number (Value v) = Some (with_value 3 1 txn number v)
said_cells txn number Absent = Some (plain 3 2 txn number)
said_cells txn number (Done None) = Some (plain 3 3 txn number)
said_cells txn number (Done (Some v)) = Some (with_value 3 4 txn number v)
said_cells txn number Duplicate = Some (plain 3 5 txn number)
said_cells txn number Missing = Some (plain 3 6 txn number)
said_cells txn number NoRoom = Some (plain 3 7 txn number)
said_cells txn number Old = None

-- an abort has a value other than 0
abbrev pub outcome_cells : ℕ → Outcome → Option Cells
outcome_cells txn outcome.Committed = Some (plain 5 1 txn 0)
outcome_cells txn (outcome.Aborted v) = if v == 0 then None else Some (plain 5 2 txn v)
outcome_cells txn outcome.NoRoom = Some (plain 5 3 txn 0)

-- eight bytes for each argument
abbrev pub args_bytes : List ℕ → List ℕ
args_bytes args = flat_map (to_le_bytes w64) args ++ zeros (64 - 8 * length args)

abbrev pub cells_of : Event → Option Cells
cells_of (Admit txn proc args) = if nat_le (length args) 8 then Some (with_value 1 (length args) txn proc (args_bytes args)) else None
cells_of (Ask txn number o) = Some (op_cells 2 txn number o)
cells_of (Answer txn number said) = said_cells txn number said
cells_of (Undo txn number o) = Some (op_cells 4 txn number o)
cells_of (End txn o) = outcome_cells txn o
cells_of (Checkpoint admitted given) = Some (plain 6 0 admitted given)

abbrev pub printed_cells : Option Cells → List ℕ
printed_cells None = zeros 96
printed_cells (Some c) = cells_bytes c

-- an event without cells is printed as zeros, which no event spells
abbrev pub printed : Event → List ℕ
printed e = printed_cells (cells_of e)
