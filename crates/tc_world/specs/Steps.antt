-- The steps of a world: what each does, or why it isn't possible.
use Rattle.std.specs.Prelude.{◌≡◌, ◌≢◌, ℕ, ◌+◌, ◌^◌, nat_le, take, Bool, true, false, ◌&&◌, List, [], ◌∷◌}
use Rattle.std.specs.Prelude.{◌++◌, length, Option, Some, None, Result, Ok, Err, slice_get, slice_set}
use Rattle.access_slots.specs.Access.{fits}
use Rattle.access_slots.specs.Locks.{target}
use Rattle.access_slots.specs.declared.op.Op.{Op}
use Rattle.access_slots.specs.declared.op.Wire.{Wire}
use Rattle.access_slots.specs.declared.op.Reply.{Reply}
use Rattle.access_slots.specs.declared.op.News.{News}
use Rattle.tc_log.specs.declared.event.Outcome.{Outcome as Ending}
use Rattle.tc_log.specs.declared.event.Event.TheVariants as event
use Rattle.history.specs.Calls.{admitted}
use Rattle.history.specs.Flight.{Flight, open_op, given, low_water}
use Rattle.transactions.specs.declared.Sent.{Sent}
use Rattle.transactions.specs.Standing.{Standing, standing}
use Rattle.transactions.specs.InFlight.{site_of}
use Rattle.transactions.specs.Room.{each_one, total}
use Rattle.data_component.specs.Store.{Store, replied, performed, checkpointed, restarted, news_of}
use Rattle.tc_core.specs.Checkpointing.{MayCheckpoint, IsCheckpointFault, checkpointed as cut_core}
use Rattle.tc_core.specs.Core.{Core, Asking}
use Rattle.tc_core.specs.Replies.{with_event, ask_reply, after_ask, undo_reply, after_undo, end_of, is_heard}
use Rattle.tc_core.specs.Lent.{wire_of}
use Rattle.tc_core.specs.Redo.{news_fault, after_told, redo_reply, after_redo, IsRedone, after_redone}
use Rattle.tc_core.specs.Admission.{call_of, IsAdmissible, IsRefused}
use Rattle.tc_core.specs.declared.state.Asked.{Asked}
use Rattle.tc_core.specs.declared.state.Asked.TheVariants as reply
use Rattle.tc_core.specs.declared.state.Call.{Call}
use Rattle.tc_core.specs.declared.state.Down.{Down}
use Rattle.tc_core.specs.declared.state.NewsFault.{NewsFault}
use Rattle.tc_core.specs.declared.state.NewsFault.TheVariants as fault
use Rattle.tc_core.specs.declared.state.Redo.{Redo}
use Rattle.tc_core.specs.declared.state.Redo.TheVariants as redo
use Rattle.tc_core.specs.Recovery.{first_events}
use Rattle.tc_world.specs.Whole.{Whole}
use Rattle.tc_world.specs.Cutting.{kept_marks, AreForgotten, IsUncut}
use Rattle.tc_world.specs.Recovery.{come_back, notes_of, MayCrash}
use Rattle.tc_world.specs.declared.step.Step.{Step}
use Rattle.tc_world.specs.declared.step.Step.TheVariants as step
use Rattle.tc_world.specs.declared.step.Outcome.{Outcome}
use Rattle.tc_world.specs.declared.step.Outcome.TheVariants as outcome
use Rattle.tc_world.specs.declared.step.Illegal.{Illegal}
use Rattle.tc_world.specs.declared.step.Illegal.TheVariants as illegal

-- what becomes of a step
pub data Fate : Type 0 where
  -- it is taken, with this outcome, and the world is this one
  Goes : Outcome → Whole → Fate
  -- it isn't possible, and changes nothing
  Stops : Illegal → Fate

abbrev pub with_core : Whole → Core → Whole
with_core w c = record w { core = c }

abbrev pub with_dcs : Whole → List Store → Whole
with_dcs w ds = record w { dcs = ds }

abbrev pub with_copy : Whole → Wire → Whole
with_copy w x = record w { copies = w.copies ++ x ∷ [] }

abbrev pub with_reply : Whole → Reply → Whole
with_reply w x = record w { replies = w.replies ++ x ∷ [] }

abbrev pub with_news : Whole → ℕ → News → Whole
with_news w d n = record w { news = w.news ++ (d, n) ∷ [] }

-- a wire is sent
abbrev pub sends : Whole → Wire → Fate
sends w x = Goes (outcome.Sent (length w.copies) x) (with_copy w x)

-- a new request is sent, or held back while its data component is down
abbrev pub sends_or_holds : Whole → Asking → Result Wire Down → Fate
sends_or_holds w r (Ok x) = sends w x
sends_or_holds w r (Err down) = Goes (outcome.Held r.number r.op) w

-- the transaction component answered so, and is this one now
abbrev pub told : Whole → ℕ → Core → Asked → Fate
told w t c (reply.Request r) = sends_or_holds (with_core w c) r (wire_of c r)
told w t c reply.Undoing = Goes (outcome.Undoing t) w
told w t c reply.Over = Goes (outcome.Over t) w
told w t c (reply.Stuck n) = Goes (outcome.Stuck t n) w
told w t c (reply.Waits n) = Stops (illegal.Waits n)
told w t c reply.Running = Stops illegal.Running
told w t c reply.Unknown = Stops illegal.NoTxn

abbrev pub asks : Whole → ℕ → Fate
asks w t = told w t (after_ask w.core (ask_reply w.core t)) (ask_reply w.core t)

abbrev pub undoes : Whole → ℕ → Fate
undoes w t = told w t (after_undo w.core (undo_reply w.core t)) (undo_reply w.core t)

abbrev pub ends_by : Whole → ℕ → Option Standing → Option Ending → Fate
ends_by w t None o = Stops illegal.NoTxn
ends_by w t (Some s) None = Stops illegal.NotOver
ends_by w t (Some s) (Some o) =
    Goes (outcome.Ended (record { place = length w.core.events; txn = t; outcome = o })) (with_core w (with_event w.core (event.End t o)))

abbrev pub ends : Whole → ℕ → Fate
ends w t = ends_by w t (standing w.core.events t) (end_of w.core t)

abbrev pub resends_wire : Whole → Op → Result Wire Down → Fate
resends_wire w o (Ok x) = sends w x
resends_wire w o (Err down) = Stops (illegal.Down (target o).dc)

abbrev pub resends_sent : Whole → ℕ → Option Sent → Fate
resends_sent w t None = Stops illegal.NothingOpen
resends_sent w t (Some r) = resends_wire w r.op (wire_of w.core (record { txn = t; number = r.number; op = r.op }))

abbrev pub resends_by : Whole → ℕ → Option Standing → Fate
resends_by w t None = Stops illegal.NoTxn
resends_by w t (Some s) = resends_sent w t s.sent

abbrev pub resends : Whole → ℕ → Fate
resends w t = resends_by w t (standing w.core.events t)

abbrev pub gets_reply : Whole → Option Reply → Fate
gets_reply w None = Goes outcome.Silent w
gets_reply w (Some x) = Goes (outcome.Replied (length w.replies) x) (with_reply w x)

-- the data component that keeps a wire's record
abbrev pub dc_of : Wire → ℕ
dc_of x = (target x.op).dc

abbrev pub performs_at : Whole → Wire → Option Store → Fate
performs_at w x None = Stops illegal.NoDc
performs_at w x (Some d) = gets_reply (with_dcs w (slice_set w.dcs (dc_of x) (performed d x))) (replied d x)

abbrev pub performs_copy : Whole → Option Wire → Fate
performs_copy w None = Stops illegal.NoCopy
performs_copy w (Some x) = performs_at w x (slice_get w.dcs (dc_of x))

-- any wire that was ever sent may come, at any time and any number of times
abbrev pub performs : Whole → ℕ → Fate
performs w i = performs_copy w (slice_get w.copies i)

abbrev pub takes_answer : Whole → Flight → Reply → Bool → Fate
takes_answer w f x true = Goes (outcome.Took x.number) (with_core w (with_event w.core (event.Answer f.txn x.number x.said)))
takes_answer w f x false = Stops illegal.Stranger

-- a reply to a number that is open: its data component is up and of that incarnation, and the answer fits
abbrev pub takes_open : Whole → Flight → Reply → Fate
takes_open w f x = takes_answer w f x (is_heard (site_of w.core.sites f.op) x && fits f.op x.said)

-- another is tried as one to an operation under redo
pub record TakesRedo (w : Whole) (x : Reply) (o : Outcome) (w' : Whole) : Type 0 where
  pub dc : ℕ
  pub is : IsRedone w.core dc x
  pub outcome : o ≡ outcome.Redone x.number
  pub next : w' ≡ with_core w (after_redone w.core dc x.number)

abbrev pub TakesBy : Whole → Reply → Option Flight → Outcome → Whole → Type 0
TakesBy w x (Some f) o w' = takes_open w f x ≡ Goes o w'
TakesBy w x None o w' = TakesRedo w x o w'

-- any reply that was ever sent may come
abbrev pub TakesReply : Whole → Option Reply → Outcome → Whole → Type 0
TakesReply w None o w' = ⊥
TakesReply w (Some x) o w' = TakesBy w x (open_op w.core.events x.number) o w'

abbrev pub Takes : Whole → ℕ → Outcome → Whole → Type 0
Takes w i o w' = TakesReply w (slice_get w.replies i) o w'

abbrev pub IsStrangeTo : Whole → Reply → Option Flight → Type 0
IsStrangeTo w x (Some f) = takes_open w f x ≡ Stops illegal.Stranger
IsStrangeTo w x None = (d : ℕ) → IsRedone w.core d x → ⊥

abbrev pub IsNotTaken : Whole → Option Reply → Illegal → Type 0
IsNotTaken w None why = why ≡ illegal.NoReply
IsNotTaken w (Some x) why = (why ≡ illegal.Stranger) × IsStrangeTo w x (open_op w.core.events x.number)

abbrev pub restarts_as : Whole → ℕ → Store → Bool → Fate
restarts_as w d s true = Stops illegal.IncarnationsSpent
restarts_as w d s false = Goes (outcome.Restarted d) (with_news (with_dcs w (slice_set w.dcs d (restarted s))) d (news_of (restarted s)))

abbrev pub restarts_at : Whole → ℕ → Option Store → Fate
restarts_at w d None = Stops illegal.NoDc
restarts_at w d (Some s) = restarts_as w d s (nat_le (2 ^ 62) s.incarnation)

-- what the last checkpoint kept is left, and news are made
abbrev pub restarts : Whole → ℕ → Fate
restarts w d = restarts_at w d (slice_get w.dcs d)

abbrev pub checkpoints_at : Whole → ℕ → Option Store → Fate
checkpoints_at w d None = Stops illegal.NoDc
checkpoints_at w d (Some s) = Goes (outcome.Checkpointed d s.mark) (with_dcs w (slice_set w.dcs d (checkpointed s)))

abbrev pub checkpoints : Whole → ℕ → Fate
checkpoints w d = checkpoints_at w d (slice_get w.dcs d)

abbrev pub tells_unless : Whole → ℕ → News → Option NewsFault → Fate
tells_unless w d n None = Goes (outcome.Told d n) (with_core w (after_told w.core d n))
tells_unless w d n (Some fault.NoDc) = Stops illegal.NoDc
tells_unless w d n (Some fault.OldNews) = Stops illegal.OldNews
tells_unless w d n (Some fault.Forgotten) = Stops illegal.Forgotten

abbrev pub tells_news : Whole → Option (ℕ × News) → Fate
tells_news w None = Stops illegal.NoNews
tells_news w (Some x) = tells_unless w x.0 x.1 (news_fault w.core x.0 x.1)

-- any news that were ever made may come
abbrev pub tells : Whole → ℕ → Fate
tells w i = tells_news w (slice_get w.news i)

abbrev pub redoes_by : Whole → ℕ → Redo → Fate
redoes_by w d (redo.Send x) = Goes (outcome.Redoing (length w.copies) x) (with_copy w x)
redoes_by w d redo.Finished = Goes (outcome.Up d) (with_core w (after_redo w.core d redo.Finished))
redoes_by w d redo.NotDown = Stops illegal.NotDown
redoes_by w d redo.NoDc = Stops illegal.NoDc

-- the operation under redo is sent, or the redo ends
abbrev pub redoes : Whole → ℕ → Fate
redoes w d = redoes_by w d (redo_reply w.core d)

abbrev pub forges : Whole → Reply → Fate
forges w x = Goes (outcome.Forged (length w.replies)) (with_reply w x)

-- the transaction component crashes when so many events were written, and comes back from them, and from a note of all that is known
-- of each data component
pub record Crashes (w : Whole) (events : ℕ) (o : Outcome) (w' : Whole) : Type 0 where
  pub may : MayCrash events w
  pub outcome : o ≡ outcome.Crashed events (total each_one (first_events events w.core.events))
  pub next : w' ≡ come_back (first_events events w.core.events) (notes_of w) w

abbrev pub IsNotCrashed : Whole → ℕ → Illegal → Type 0
IsNotCrashed w events illegal.NotWritten = MayCrash events w → ⊥
IsNotCrashed w events illegal.Memory = MayCrash events w
IsNotCrashed w events why = ⊥

-- the log begins anew, behind data components that have forgotten what they performed, and kept their rows; what was sent before may
-- come still
pub record Cuts (w : Whole) (o : Outcome) (w' : Whole) : Type 0 where
  pub may : MayCheckpoint w.core (kept_marks w)
  pub outcome : o ≡ outcome.Cut (admitted w.core.events) (given w.core.events)
  pub forgotten : AreForgotten (low_water w.core.events) w.core.sites w.dcs w'.dcs
  pub next : w' ≡ record w { core = cut_core w.core; dcs = w'.dcs }

abbrev pub IsNotCut : Whole → Illegal → Type 0
IsNotCut w why = IsUncut w.core w.dcs why

-- it stops so; want of memory comes only where it may
abbrev pub StopsOr : Type 0 → Fate → Illegal → Type 0
StopsOr lacks fate illegal.Memory = lacks
StopsOr lacks fate why = fate ≡ Stops why

-- the step is possible
abbrev pub MayGo : Fate → Type 0
MayGo fate = (o : Outcome) × (w : Whole) × (fate ≡ Goes o w)

pub record Admits (w : Whole) (call : Call) (o : Outcome) (w' : Whole) : Type 0 where
  pub may : IsAdmissible w.core (call_of call)
  pub outcome : o ≡ outcome.Admitted (admitted w.core.events + 1)
  pub next : w' ≡ with_core w (with_event w.core (event.Admit (admitted w.core.events + 1) call.proc call.args.items))

abbrev pub IsNotAdmitted : Whole → Call → Illegal → Type 0
IsNotAdmitted w call (illegal.Refused r) = IsRefused w.core (call_of call) r
IsNotAdmitted w call why = ⊥

-- the step is possible, with this outcome, and the world is that one then
abbrev pub Steps : Whole → Step → Outcome → Whole → Type 0
Steps w (step.Admit call) o w' = Admits w call o w'
Steps w (step.Ask t) o w' = asks w t ≡ Goes o w'
Steps w (step.Undo t) o w' = undoes w t ≡ Goes o w'
Steps w (step.End t) o w' = ends w t ≡ Goes o w'
Steps w (step.Resend t) o w' = resends w t ≡ Goes o w'
Steps w (step.Perform i) o w' = performs w i ≡ Goes o w'
Steps w (step.Take i) o w' = Takes w i o w'
Steps w (step.Restart d) o w' = restarts w d ≡ Goes o w'
Steps w (step.Forge x) o w' = forges w x ≡ Goes o w'
Steps w (step.Checkpoint d) o w' = checkpoints w d ≡ Goes o w'
Steps w (step.Tell i) o w' = tells w i ≡ Goes o w'
Steps w (step.Redo d) o w' = redoes w d ≡ Goes o w'
Steps w (step.Crash events) o w' = Crashes w events o w'
Steps w step.Cut o w' = Cuts w o w'

-- the step isn't possible, and this is why; want of memory comes at a step that is possible and makes a list longer, at a crash that
-- is possible, at an ask or undo of any open transaction, since its lists grow first, and at a cut at rest
abbrev pub IsIllegal : Whole → Step → Illegal → Type 0
IsIllegal w (step.Admit call) why = IsNotAdmitted w call why
IsIllegal w (step.Ask t) why = StopsOr (standing w.core.events t ≢ None) (asks w t) why
IsIllegal w (step.Undo t) why = StopsOr (standing w.core.events t ≢ None) (undoes w t) why
IsIllegal w (step.End t) why = ends w t ≡ Stops why
IsIllegal w (step.Resend t) why = StopsOr (MayGo (resends w t)) (resends w t) why
IsIllegal w (step.Perform i) why = StopsOr (MayGo (performs w i)) (performs w i) why
IsIllegal w (step.Take i) why = IsNotTaken w (slice_get w.replies i) why
IsIllegal w (step.Restart d) why = StopsOr (MayGo (restarts w d)) (restarts w d) why
IsIllegal w (step.Forge x) why = StopsOr (MayGo (forges w x)) (forges w x) why
IsIllegal w (step.Checkpoint d) why = checkpoints w d ≡ Stops why
IsIllegal w (step.Tell i) why = tells w i ≡ Stops why
IsIllegal w (step.Redo d) why = StopsOr (MayGo (redoes w d)) (redoes w d) why
IsIllegal w (step.Crash events) why = IsNotCrashed w events why
IsIllegal w step.Cut why = IsNotCut w why

-- one step after another
abbrev pub Runs : Whole → List Step → Whole → Type 0
Runs w [] w' = w' ≡ w
Runs w (x ∷ xs) w' = (o : Outcome) × (mid : Whole) × Steps w x o mid × Runs mid xs w'

-- the steps before this place were taken, and the one there isn't possible
pub record StopsAt (w : Whole) (xs : List Step) (k : ℕ) (why : Illegal) (w' : Whole) : Type 0 where
  pub ran : Runs w (take k xs) w'
  pub next : Step
  pub at : slice_get xs k ≡ Some next
  pub is : IsIllegal w' next why
