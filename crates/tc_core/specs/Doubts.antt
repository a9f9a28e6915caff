-- Numbers that were given up.
use Rattle.std.specs.Prelude.{◌≡◌, ℕ, ◌+◌, zero, suc, Bool, true, false, List, [], ◌∷◌, ◌++◌, length}
use Rattle.request_numbers.specs.Given.{holds, others}
use Rattle.tc_log.specs.declared.event.Event.{Event}
use Rattle.tc_log.specs.declared.event.Event.TheVariants.{Answer}
use Rattle.transactions.specs.Room.{one_if}

-- the numbers, in the order in which they were given up, how many of them fit with no allocation, and the number behind which the log
-- begins
pub record Doubts : Type 0 where
  pub numbers : List ℕ
  pub room : ℕ
  pub from : ℕ

abbrev pub with_number_by : Bool → ℕ → List ℕ → List ℕ
with_number_by true n ns = ns
with_number_by false n ns = ns ++ n ∷ []

-- one number more, if it isn't there
abbrev pub with_number : ℕ → List ℕ → List ℕ
with_number n ns = with_number_by (holds n ns) n ns

-- those that are given up behind an event: one that is answered isn't any more
abbrev pub given_up_behind : Event → List ℕ → List ℕ
given_up_behind (Answer t n said) ns = others n ns
given_up_behind _ ns = ns

-- how many of the numbers 1 to n are among them
abbrev pub marks : List ℕ → ℕ → ℕ
marks ns zero = 0
marks ns (suc n) = marks ns n + one_if (holds (suc n) ns)

-- each of them is one of 1 to n, and there once
abbrev pub AreOnce : ℕ → List ℕ → Type 0
AreOnce n ns = length ns ≡ marks ns n
