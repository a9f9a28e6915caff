-- How workers are spread over partitions.
use Rattle.std.specs.Prelude.{ℕ, ◌+◌, ◌/◌, ◌%◌, max, nat_lt, if◌then◌else◌}

-- as many as each, one more in the first ones where some are left, and one at least
abbrev pub workers_of : (workers partitions place : ℕ) → ℕ
workers_of workers partitions place = max (if nat_lt place (workers % partitions) then workers / partitions + 1 else workers / partitions) 1
