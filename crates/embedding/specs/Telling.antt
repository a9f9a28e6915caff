-- What a transaction component says, as a frame has it.
use Rattle.std.specs.Prelude.{◌≡◌, ℕ, List, [], ◌∷◌, Option, Some, None, Result, Ok, Err}
use Rattle.access_slots.specs.declared.op.Wire.{Wire}
use Rattle.tc_log.specs.declared.event.Outcome.{Outcome}
use Rattle.tc_log.specs.declared.event.Outcome.TheVariants.{Committed, Aborted, NoRoom}
use Rattle.transactions.specs.declared.Redoing.{Redoing}
use Rattle.transactions.specs.declared.Site.{Site}
use Rattle.tc_core.specs.Core.{Core, Asking}
use Rattle.tc_core.specs.Lent.{wire_of}
use Rattle.tc_core.specs.declared.procs.LoadRefusal.{LoadRefusal}
use Rattle.tc_core.specs.declared.procs.LoadRefusal.TheVariants as loading
use Rattle.tc_core.specs.declared.state.Asked.{Asked}
use Rattle.tc_core.specs.declared.state.Asked.TheVariants as asked
use Rattle.tc_core.specs.declared.state.Down.{Down}
use Rattle.tc_core.specs.declared.state.Redo.{Redo}
use Rattle.tc_core.specs.declared.state.Redo.TheVariants as redo
use Rattle.tc_core.specs.declared.state.Refusal.{Refusal}
use Rattle.tc_core.specs.declared.state.Refusal.TheVariants as refusal
use Rattle.embedding.specs.declared.frame.Frame.{Frame}
use Rattle.embedding.specs.Frames.{IsOf, Names, Carries}

-- the frame carries the request's wire (1), or says which operation waits for a data component that is down (8)
abbrev pub Sends : Asking → Frame → Result Wire Down → Type 0
Sends r f (Ok w) = (f.kind ≡ 1) × Carries f w
Sends r f (Err down) = (f.kind ≡ 8) × (f.number ≡ r.number) × Names f r.op

-- the frame says what a transaction does next
abbrev pub Tells : Core → Asked → Frame → Type 0
Tells c (asked.Request r) f = Sends r f (wire_of c r)
Tells c asked.Undoing f = f.kind ≡ 2
Tells c asked.Over f = f.kind ≡ 3
Tells c (asked.Stuck n) f = (f.kind ≡ 4) × (f.number ≡ n)
Tells c (asked.Waits n) f = (f.kind ≡ 5) × (f.number ≡ n)
Tells c asked.Running f = f.kind ≡ 6
Tells c asked.Unknown f = f.kind ≡ 7

-- the request that is kept, if it is one
abbrev pub requests_of : Asked → List Asking
requests_of (asked.Request r) = r ∷ []
requests_of asked.Undoing = []
requests_of asked.Over = []
requests_of (asked.Stuck n) = []
requests_of (asked.Waits n) = []
requests_of asked.Running = []
requests_of asked.Unknown = []

-- the frame says how a transaction ended
abbrev pub EndsAs : Option Outcome → Frame → Type 0
EndsAs None f = ⊥
EndsAs (Some Committed) f = (f.kind ≡ 1) × (f.word ≡ 0)
EndsAs (Some (Aborted v)) f = (f.kind ≡ 2) × (f.word ≡ v)
EndsAs (Some NoRoom) f = (f.kind ≡ 3) × (f.word ≡ 0)

-- B4, B5, B1 with the record in the way and its holder, B2, W5
abbrev pub TellsRefusal : Refusal → ℕ → Frame → Type 0
TellsRefusal refusal.NoProcedure code f = code ≡ 0x4204
TellsRefusal refusal.ArgumentCount code f = code ≡ 0x4205
TellsRefusal (refusal.Busy b) code f = (code ≡ 0x4201) × IsOf f b.name × (f.txn ≡ b.holder)
TellsRefusal refusal.NumbersSpent code f = code ≡ 0x4202
TellsRefusal refusal.Memory code f = code ≡ 0x5705

-- P1, P2 with the slot, W5
abbrev pub TellsLoading : LoadRefusal → ℕ → Frame → Type 0
TellsLoading loading.NameTaken code f = code ≡ 0x5001
TellsLoading (loading.DcUnknown slot) code f = (code ≡ 0x5002) × (f.place ≡ slot)
TellsLoading loading.Memory code f = code ≡ 0x5705

-- the operation under redo is to be sent (1), or the data component is up (2); I16, I10
abbrev pub TellsRedo : Redo → ℕ → Frame → Type 0
TellsRedo (redo.Send w) code f = (code ≡ 0) × (f.kind ≡ 1) × Carries f w
TellsRedo redo.Finished code f = (code ≡ 0) × (f.kind ≡ 2)
TellsRedo redo.NotDown code f = code ≡ 0x4910
TellsRedo redo.NoDc code f = code ≡ 0x490a

abbrev pub TellsRedoing : Option Redoing → Frame → Type 0
TellsRedoing None f = f.kind ≡ 1
TellsRedoing (Some r) f = (f.kind ≡ 2) × (f.low_water ≡ r.mark) × (f.number ≡ r.redone)

-- the known incarnation of a data component, and whether it is up (1) or down (2), with the mark above which its redo began and the
-- last number redone
abbrev pub TellsSite : Site → Frame → Type 0
TellsSite s f = (f.incarnation ≡ s.incarnation) × TellsRedoing s.redo f
