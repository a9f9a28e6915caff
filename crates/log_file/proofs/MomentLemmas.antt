-- Where no call of the device was made.
use Rattle.std.proofs.Common.{inl, ℕ, List, arith}
use Rattle.frame_file.specs.Device.{LeavesOnly}

pub unmoved : {D : Type 0} (moment : D → ℕ) (left_since : D → ℕ → List ℕ → Type 0) (device : D) (P : List ℕ → Type 0)
    → ((c : List ℕ) → left_since device (moment device) c → P c) → LeavesOnly moment left_since device device P
unmoved moment left_since device P here = record { later = omega arith; each = here; before = λ t c le left. inl left }
