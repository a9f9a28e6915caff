-- Which calls are admitted, and why one isn't.
use Rattle.std.specs.Prelude.{◌≡◌, ◌≢◌, ℕ, ◌+◌, ◌*◌, ◌<◌, ◌≤◌, ◌^◌, List, length, Some, None, slice_get}
use Rattle.access_slots.specs.Held.{Compatible, IsFirstInTheWay}
use Rattle.verifier.specs.Checked.{Checked}
use Rattle.history.specs.Calls.{Call, held, locks_of}
use Rattle.history.specs.Flight.{given}
use Rattle.transactions.specs.Reached.{decls, calls_in}
use Rattle.transactions.specs.Room.{numbers_left, total}
use Rattle.tc_core.specs.Core.{Core}
use Rattle.tc_core.specs.declared.state.Call as called
use Rattle.tc_core.specs.declared.state.Refusal.{Refusal}
use Rattle.tc_core.specs.declared.state.Refusal.TheVariants as refusal

abbrev pub call_of : called.Call → Call
call_of call = record { proc = call.proc; args = call.args.items }

-- the procedure is loaded, and takes so many arguments
pub record IsCalled (ps : List Checked) (call : Call) (q : Checked) : Type 0 where
  pub loaded : slice_get ps call.proc ≡ Some q
  pub count : length call.args ≡ q.decl.args

pub record Takes (c : Core) (call : Call) : Type 0 where
  pub q : Checked
  pub is : IsCalled c.procs call q

-- there is no such procedure, or it takes another number of arguments
abbrev pub IsUncallable : List Checked → Call → Refusal → Type 0
IsUncallable ps call refusal.NoProcedure = slice_get ps call.proc ≡ None
IsUncallable ps call refusal.ArgumentCount = (q : Checked) × (slice_get ps call.proc ≡ Some q) × (length call.args ≢ q.decl.args)
IsUncallable ps call (refusal.Busy b) = ⊥
IsUncallable ps call refusal.NumbersSpent = ⊥
IsUncallable ps call refusal.Memory = ⊥

-- the numbers given, those that open transactions may still be given, and five for each call slot
abbrev pub needed : Core → Checked → ℕ
needed c q = given c.events + 5 * calls_in q + total (numbers_left c.procs) c.events

abbrev pub IsFree : Core → Call → Type 0
IsFree c call = Compatible (held (decls c.procs) c.events) (locks_of (decls c.procs) call)

pub record IsAdmissible (c : Core) (call : Call) : Type 0 where
  pub takes : Takes c call
  pub free : IsFree c call
  pub few : needed c takes.q ≤ 2 ^ 62

abbrev pub IsRefused : Core → Call → Refusal → Type 0
IsRefused c call refusal.NoProcedure = slice_get c.procs call.proc ≡ None
IsRefused c call refusal.ArgumentCount = (q : Checked) × (slice_get c.procs call.proc ≡ Some q) × (length call.args ≢ q.decl.args)
IsRefused c call (refusal.Busy b) =
    Takes c call × IsFirstInTheWay (held (decls c.procs) c.events) (locks_of (decls c.procs) call) b.name b.holder
IsRefused c call refusal.NumbersSpent = (t : Takes c call) × IsFree c call × (2 ^ 62 < needed c t.q)
IsRefused c call refusal.Memory = IsAdmissible c call
