-- Where the run of a transaction's procedure stands on the answers that it has.
use Rattle.std.specs.Prelude.{◌≡◌, ℕ, ◌+◌, ◌<◌, ◌≤◌, Bool, true, false, not, ◌==◌, if◌then◌else◌, List, map, length}
use Rattle.std.specs.Prelude.{Option, Some, None, slice_get, count_by}
use Rattle.access_slots.specs.Declaration.{Declaration}
use Rattle.access_slots.specs.declared.op.Op.{Op}
use Rattle.access_slots.specs.declared.op.Said.{Said}
use Rattle.access_slots.specs.Held.{Wanted}
use Rattle.access_slots.specs.Locks.{allows, target, is_read}
use Rattle.semantics.specs.Step.{Setting}
use Rattle.semantics.specs.Reach.{Stop, Asked, Exited, Trapped, Unfinished, AreArguments, AnswersFit, IsLayout, IsSafe, reach, entry}
use Rattle.semantics.specs.Instruction.{program_of, setting}
use Rattle.semantics.specs.Row.{plain_bases}
use Rattle.verifier.specs.Checked.{Checked}
use Rattle.verifier.specs.Calls.{is_call_place}
use Rattle.semantics.specs.Reach.{AsksAtMost}
use Rattle.history.specs.Calls.{Call, locks_of}
use Rattle.transactions.specs.Standing.{Standing}

-- a run stands at a question or at its end; of a safe procedure it stands nowhere else
pub data Reached : Type 0 where
  Asks : (operation : Op) → Reached
  Ends : (value : ℕ) → Reached
  Nowhere : Reached

abbrev pub reached_of : Stop → Reached
reached_of (Asked slot operation c) = Asks operation
reached_of (Exited v c) = Ends v
reached_of (Trapped cause) = Nowhere
reached_of Unfinished = Nowhere

-- the procedure's run with these arguments, its memory laid out plainly
abbrev pub plain : Checked → List ℕ → Setting
plain q args = setting q.code q.decl args plain_bases

-- where it stands on these answers, oldest first
unfoldable pub stop_at : Checked → List ℕ → List Said → Stop
stop_at q args answers = reach (plain q args) answers

abbrev pub reached_by : Option Checked → List ℕ → List Said → Reached
reached_by None args answers = Nowhere
reached_by (Some q) args answers = reached_of (stop_at q args answers)

abbrev pub reached : List Checked → Standing → Reached
reached ps s = reached_by (slice_get ps s.call.proc) s.call.args s.answers

-- each answer fits its question and isn't NoRoom
unfoldable pub Fitting : Checked → List ℕ → List Said → Type 0
Fitting q args answers = AnswersFit (plain q args) (entry (plain q args)) answers

abbrev pub decls : List Checked → List Declaration
decls ps = map (λ (q : Checked). q.decl) ps

-- how many call slots its code has
abbrev pub calls_in : Checked → ℕ
calls_in q = count_by is_call_place q.code

abbrev pub calls_by : Option Checked → ℕ
calls_by None = 0
calls_by (Some q) = calls_in q

abbrev pub calls : List Checked → ℕ → ℕ
calls ps p = calls_by (slice_get ps p)

-- the locks allow the operation
abbrev pub covers : Wanted → Op → Type 0
covers wanted o = allows (wanted (target o)) (is_read o) ≡ true

-- what `verify` shows of a procedure: it is safe, asks at most as often as its code has call slots, and has at most 4,096 slots
pub record IsGood (q : Checked) : Type 0 where
  pub safe : IsSafe (program_of q.code q.decl)
  pub few : AsksAtMost (program_of q.code q.decl) (calls_in q)
  pub short : length q.code ≤ 4096

-- each loaded procedure is safe
abbrev pub AllGood : List Checked → Type 0
AllGood ps = (p : ℕ) (q : Checked) → slice_get ps p ≡ Some q → IsGood q
