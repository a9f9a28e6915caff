-- Why a call isn't admitted that isn't tried.
use Rattle.std.specs.Prelude.{◌≡◌, ◌≢◌, List, length, None, Some, slice_get}
use Rattle.verifier.specs.Checked.{Checked}
use Rattle.history.specs.Calls.{Call}
use Rattle.tc_core.specs.Admission.{IsCalled}
use Rattle.tc_core.specs.declared.state.Refusal.{Refusal}
use Rattle.tc_core.specs.declared.state.Refusal.TheVariants as refusal

-- its procedure isn't there, or takes another number of arguments; for any other call memory ran out
abbrev pub IsUntried : List Checked → Call → Refusal → Type 0
IsUntried ps call refusal.NoProcedure = slice_get ps call.proc ≡ None
IsUntried ps call refusal.ArgumentCount = (q : Checked) × (slice_get ps call.proc ≡ Some q) × (length call.args ≢ q.decl.args)
IsUntried ps call (refusal.Busy b) = ⊥
IsUntried ps call refusal.NumbersSpent = ⊥
IsUntried ps call refusal.Memory = (q : Checked) × IsCalled ps call q
