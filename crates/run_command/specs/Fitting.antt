-- How many calls a part has, where the log may begin anew between two parts.
use Rattle.std.specs.Prelude.{◌≡◌, ◌⊎◌, ◌∷◌, ℕ, ◌+◌, ◌-◌, ◌*◌, ◌≤◌, nat_le, Bool, true, false, if◌then◌else◌, List, [], length, take, sum_by}
use Rattle.std.specs.Prelude.{Option, Some, None}
use Rattle.std.specs.List.{list_all}
use Rattle.data_component.specs.Store.{Store}
use Rattle.scripts.specs.declared.script.Call.{Call}
use Rattle.transactions.specs.Reached.{calls}
use Rattle.verifier.specs.Checked.{Checked}
use Rattle.run_log.specs.declared.anew.Bar.{Bar}
use Rattle.run_log.specs.declared.anew.Renewal.{Renewal}
use Rattle.run_log.specs.declared.anew.Renewal.TheVariants.{Barred}

-- how many operations a call may make at a data component, at most: one to ask for each call slot of its procedure, and four to undo it
abbrev pub most_operations : List Checked → Call → ℕ
most_operations ps call = 5 * calls ps call.procedure

-- calls one after another
abbrev pub operations : List Checked → List Call → ℕ
operations ps calls = sum_by (most_operations ps) calls

-- a data component has room for so many operations more
abbrev pub has_room : ℕ → Store → Bool
has_room operations dc = nat_le operations (dc.ops - length dc.list)

-- each has
abbrev pub have_room : List Store → ℕ → Bool
have_room dcs operations = list_all (has_room operations) dcs

-- so many of the calls fit, and not one more
pub record IsFitting (ps : List Checked) (dcs : List Store) (calls : List Call) (count : ℕ) : Type 0 where
  pub fit : have_room dcs (operations ps (take count calls)) ≡ true
  pub most : (count ≡ length calls) ⊎ (have_room dcs (operations ps (take (count + 1) calls)) ≡ false)

-- calls of a part fit, or there is one, or the log before them can't begin anew
pub data IsMeasured (ps : List Checked) (dcs : List Store) (renewal : Renewal) (calls : List Call) : Type 0 where
  Fits : have_room dcs (operations ps calls) ≡ true → IsMeasured ps dcs renewal calls
  One : length calls ≤ 1 → IsMeasured ps dcs renewal calls
  Unbounded : (bar : Bar) → renewal ≡ Barred bar → IsMeasured ps dcs renewal calls

-- where the log may begin anew between two parts
abbrev pub IsMeasuredIf : Option ℕ → List Checked → List Store → Renewal → List Call → Type 0
IsMeasuredIf None ps dcs renewal calls = Unit {0}
IsMeasuredIf (Some bytes) ps dcs renewal calls = IsMeasured ps dcs renewal calls

-- ---- when the log begins anew before a part

-- the list that has the next call
abbrev pub next_list : List Call → List Call → List Call
next_list [] calls = calls
next_list (call ∷ first) calls = call ∷ first

-- the next call fits, or there is none
abbrev pub next_fits : List Checked → List Store → List Call → Bool
next_fits ps dcs [] = true
next_fits ps dcs (call ∷ calls) = have_room dcs (most_operations ps call)

-- above how many bytes of its file: above none, where the next call doesn't fit
abbrev pub over_before : List Checked → List Store → Option ℕ → List Call → Option ℕ
over_before ps dcs None calls = None
over_before ps dcs (Some bytes) calls = if next_fits ps dcs calls then Some bytes else Some 0
