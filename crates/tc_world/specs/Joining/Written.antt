-- A look at what was carried, and what it is held against: how many numbers a log's first events gave out, up to which all were
-- answered, and which are left open.
use Rattle.std.specs.Prelude.{ℕ, ◌+◌, ◌-◌, min, count_by, [], ◌∷◌, nat_le, Bool, true, false, not, ◌&&◌, ◌||◌, ◌==◌, List, reverse, fold}
use Rattle.std.specs.List.{list_all, list_any}
use Rattle.access_slots.specs.declared.op.Wire.{Wire}
use Rattle.tc_log.specs.declared.event.Event.{Event}
use Rattle.tc_log.specs.declared.event.Event.TheVariants.{Ask, Answer, Undo}
use Rattle.data_component.specs.Performed.{Performed}
use Rattle.data_component.specs.Store.{Store}
use Rattle.tc_core.specs.Core.{Asking}

abbrev pub gives : Event → Bool
gives (Ask t n o) = true
gives (Undo t n o) = true
gives other = false

abbrev pub answers : ℕ → Event → Bool
answers n (Answer t m said) = m == n
answers n other = false

-- how many numbers these events gave out, where the log begins behind b: none before the first event
abbrev pub given_of : ℕ → List Event → ℕ
given_of b [] = 0
given_of b (e ∷ es) = b + count_by gives (e ∷ es)

-- a later event answers the number, or it is open still
abbrev pub is_left : List Event → List Asking → ℕ → Bool
is_left later rs n = list_any (λ (r : Asking). r.number == n) rs || list_any (answers n) later

-- the mark, at most right below a number that is open
abbrev pub below : ℕ → ℕ → ℕ
below low n = min low (n - 1)

abbrev pub below_event : ℕ → Event → ℕ
below_event low (Answer t n said) = below low n
below_event low other = low

abbrev pub below_request : ℕ → Asking → ℕ
below_request low r = below low r.number

-- the mark, where so many numbers were given out
abbrev pub low_left : ℕ → List Event → List Asking → ℕ
low_left given later rs = fold below_event (fold below_request given rs) later

abbrev pub is_wire_told : ℕ → ℕ → List Event → List Asking → Wire → Bool
is_wire_told given low later rs x = nat_le x.number given && (nat_le x.low_water low && not (x.redo && is_left later rs x.number))

abbrev pub are_told : ℕ → List Performed → Bool
are_told given list = list_all (λ (e : Performed). nat_le e.0 given) list

abbrev pub is_store_told : ℕ → ℕ → Store → Bool
is_store_told given low s =
    nat_le s.mark low && (nat_le s.saved_mark low && (are_told given (reverse s.list) && are_told given (reverse s.saved)))
