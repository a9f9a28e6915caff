-- The low-water mark (Lomet, Fekete, Weikum, Zwilling, CIDR 2009).
use Rattle.std.specs.Prelude.{◌≡◌, ℕ, ◌<◌, ◌≤◌, false, List}
use Rattle.request_numbers.specs.Given.{holds}

-- each number up to n was given out and answered
pub record AllAnswered (last : ℕ) (pending : List ℕ) (n : ℕ) : Type 0 where
  pub given : n ≤ last
  pub answered : (m : ℕ) → 0 < m → m ≤ n → holds m pending ≡ false

-- the greatest such number
pub record IsLowWater (last : ℕ) (pending : List ℕ) (n : ℕ) : Type 0 where
  pub all : AllAnswered last pending n
  pub greatest : (m : ℕ) → AllAnswered last pending m → m ≤ n
