-- What a call read and wrote: what each of its declared slots holds where the call's run ended.
use Rattle.std.specs.Prelude.{ℕ, nat_lt, Bool, true, false, ◌==◌, if◌then◌else◌, List, [], ◌∷◌, length, reverse, Option, Some, None, slice_get}
use Rattle.access_slots.specs.declared.op.Op.{Op}
use Rattle.access_slots.specs.declared.op.Op.TheVariants.{Read, Insert, Update, Delete}
use Rattle.access_slots.specs.declared.op.Said.{Said}
use Rattle.access_slots.specs.declared.op.Said.TheVariants.{Value, Absent, Done}
use Rattle.semantics.specs.Step.{Config, Setting, buffer_of}
use Rattle.semantics.specs.Reach.{Stop, Asked, Exited, Trapped, Unfinished, reach}
use Rattle.tc_log.specs.declared.event.Event.{Event}
use Rattle.tc_log.specs.declared.event.Event.TheVariants.{End}
use Rattle.verifier.specs.Checked.{Checked}
use Rattle.transactions.specs.Reached.{plain, stop_at}
use Rattle.transactions.specs.Standing.{Standing, standing}
use Rattle.tc_core.specs.Recovery.{first_events}
use Rattle.call_results.specs.declared.results.SlotResult.{SlotResult}

-- whether a record is there behind the answer to an operation on it; an answer that nothing was done leaves what was known
abbrev pub there_after : Op → Said → Bool → Bool
there_after (Read r) (Value v) was = true
there_after (Read r) Absent was = false
there_after (Insert r v) (Done former) was = true
there_after (Update r v) (Done former) was = true
there_after (Delete r) (Done former) was = false
there_after _ _ was = was

-- the same of slot k, where the operation was asked by the slot at which the run stands
abbrev pub there_at : Stop → ℕ → Said → Bool → Bool
there_at (Asked slot operation c) k a was = if slot == k then there_after operation a was else was
there_at (Exited v c) k a was = was
there_at (Trapped cause) k a was = was
there_at Unfinished k a was = was

-- whether slot k holds a record behind these answers, the newest first: what the last operation by it left that did anything
abbrev pub holds_record : Setting → ℕ → List Said → Bool
holds_record s k [] = false
holds_record s k (a ∷ earlier) = there_at (reach s (reverse earlier)) k a (holds_record s k earlier)

-- where a run ended: at its end, or at an insert that found no room
abbrev pub ended_at : Bool → Stop → Option Config
ended_at full (Exited v c) = Some c
ended_at true (Asked slot operation c) = Some c
ended_at false (Asked slot operation c) = None
ended_at full (Trapped cause) = None
ended_at full Unfinished = None

abbrev pub held_in : Setting → List Said → ℕ → Option Config → Option SlotResult
held_in s answers k None = None
held_in s answers k (Some c) =
    if nat_lt k (length s.program.decl.slots) then Some (record { value = buffer_of c k; is_there = holds_record s k (reverse answers) }) else
    None

abbrev pub result_by : Option Checked → Standing → ℕ → Option SlotResult
result_by None s k = None
result_by (Some q) s k = held_in (plain q s.call.args) s.answers k (ended_at s.full (stop_at q s.call.args s.answers))

-- what declared slot k of an open transaction holds, where its run has ended
abbrev pub result_in : List Checked → Option Standing → ℕ → Option SlotResult
result_in ps None k = None
result_in ps (Some s) k = result_by (slice_get ps s.call.proc) s k

abbrev pub slots_by : Option Checked → ℕ
slots_by None = 0
slots_by (Some q) = length q.decl.slots

-- how many slots the procedure of an open transaction declares
abbrev pub slots_in : List Checked → Option Standing → ℕ
slots_in ps None = 0
slots_in ps (Some s) = slots_by (slice_get ps s.call.proc)

abbrev pub result_behind : List Checked → List Event → Option Event → ℕ → Option SlotResult
result_behind ps h (Some (End t outcome)) k = result_in ps (standing h t) k
result_behind ps h _ k = None

-- the same of a transaction whose end stands at this place of the log, the oldest event at 0
abbrev pub result_at_end : List Checked → List Event → ℕ → ℕ → Option SlotResult
result_at_end ps h place k = result_behind ps (first_events place h) (slice_get (reverse h) place) k

abbrev pub slots_behind : List Checked → List Event → Option Event → ℕ
slots_behind ps h (Some (End t outcome)) = slots_in ps (standing h t)
slots_behind ps h _ = 0

-- how many slots the procedure of such a transaction declares
abbrev pub slots_at_end : List Checked → List Event → ℕ → ℕ
slots_at_end ps h place = slots_behind ps (first_events place h) (slice_get (reverse h) place)
