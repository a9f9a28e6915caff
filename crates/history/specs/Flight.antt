-- Numbers that are open, and the operations under them, which are in flight; the low-water mark (Lomet, Fekete, Weikum, Zwilling,
-- CIDR 2009: unique request IDs and LWM).
use Rattle.std.specs.Prelude.{◌≡◌, ℕ, zero, suc, ◌+◌, ◌<◌, ◌≤◌, Bool, true, false, not, ◌&&◌, ◌==◌, if◌then◌else◌}
use Rattle.std.specs.Prelude.{List, [], ◌∷◌, ◌++◌, Option, Some, None}
use Rattle.access_slots.specs.declared.op.Op.{Op}
use Rattle.request_numbers.specs.Given.{others}
use Rattle.tc_log.specs.declared.event.Event.{Event}
use Rattle.tc_log.specs.declared.event.Event.TheVariants.{Ask, Answer, Undo, Checkpoint}

-- how many numbers were given out, which is the last one
abbrev pub given : List Event → ℕ
given [] = 0
given (Ask t n o ∷ h) = given h + 1
given (Undo t n o ∷ h) = given h + 1
given (Checkpoint before numbers ∷ h) = numbers
given (_ ∷ h) = given h

-- an operation and its transaction
pub record Flight : Type 0 where
  pub txn : ℕ
  pub op : Op

-- the operation under a number that was given out and isn't answered
abbrev pub open_op : List Event → ℕ → Option Flight
open_op [] m = None
open_op (Ask t n o ∷ h) m = if n == m then Some (record { txn = t; op = o }) else open_op h m
open_op (Answer t n said ∷ h) m = if n == m then None else open_op h m
open_op (Undo t n o ∷ h) m = if n == m then Some (record { txn = t; op = o }) else open_op h m
open_op (_ ∷ h) m = open_op h m

abbrev pub is_flight : Option Flight → Bool
is_flight None = false
is_flight (Some f) = true

-- the number was given out and isn't answered
abbrev pub is_open : List Event → ℕ → Bool
is_open h n = is_flight (open_op h n)

-- the open numbers, in the order in which they were given out
abbrev pub open_numbers : List Event → List ℕ
open_numbers [] = []
open_numbers (Ask t n o ∷ h) = open_numbers h ++ n ∷ []
open_numbers (Answer t n said ∷ h) = others n (open_numbers h)
open_numbers (Undo t n o ∷ h) = open_numbers h ++ n ∷ []
open_numbers (_ ∷ h) = open_numbers h

-- each number up to n was given out and answered
pub record AllAnswered (h : List Event) (n : ℕ) : Type 0 where
  pub given_out : n ≤ given h
  pub answered : (m : ℕ) → 0 < m → m ≤ n → is_open h m ≡ false

-- the greatest such number
pub record IsLowWater (h : List Event) (n : ℕ) : Type 0 where
  pub all : AllAnswered h n
  pub greatest : (m : ℕ) → AllAnswered h m → m ≤ n

-- the mark, computed: from 1 on, as far as no number is open
abbrev pub mark_to : List Event → ℕ → ℕ
mark_to h zero = 0
mark_to h (suc n) = if (mark_to h n == n) && not (is_open h (suc n)) then suc n else mark_to h n

abbrev pub low_water : List Event → ℕ
low_water h = mark_to h (given h)
