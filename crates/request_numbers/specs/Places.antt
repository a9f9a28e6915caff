-- The places in which numbers are kept: one that is answered leaves its place closed, until the places are closed up.
use Rattle.std.specs.Prelude.{◌≡◌, ℕ, ◌+◌, ◌≤◌, ◌==◌, ◌&&◌, nat_lt, Bool, false, not, if◌then◌else◌, List, [], ◌∷◌, length, Option, Some, None}
use Rattle.std.specs.List.{prefix_len}
use Rattle.request_numbers.specs.declared.numbers.Place.{Place}
use Rattle.request_numbers.specs.Given.{Rising}

abbrev pub numbers_of : List Place → List ℕ
numbers_of [] = []
numbers_of (p ∷ ps) = p.number ∷ numbers_of ps

-- those that are open
abbrev pub open_of : List Place → List ℕ
open_of [] = []
open_of (p ∷ ps) = if p.is_open then p.number ∷ open_of ps else open_of ps

-- how many closed places stand before the first open one
abbrev pub first_open : List Place → ℕ
first_open ps = prefix_len (λ p. not p.is_open) ps

-- where a number is or would be: behind the lesser ones
abbrev pub place_of : ℕ → List Place → ℕ
place_of n ps = prefix_len (λ p. nat_lt p.number n) ps

-- whether this is the number's place, and open
abbrev pub is_open_at : Option Place → ℕ → Bool
is_open_at None n = false
is_open_at (Some p) n = (p.number == n) && p.is_open

-- what is kept of the places: where the first open one is, and how many are open. At most half of the places are closed, and
-- each open number has two.
pub record AreKept (last : ℕ) (places : List Place) (at pending capacity : ℕ) : Type 0 where
  pub rising : Rising 0 last (numbers_of places)
  pub first : at ≡ first_open places
  pub all : pending ≡ length (open_of places)
  pub half : length places ≤ pending + pending
  pub room : pending + pending ≤ capacity
