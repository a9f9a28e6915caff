-- What one call makes of a transaction component, by the frame that it was made with, the code that it answered and the frame
-- behind it; and why one is refused.
use Rattle.std.specs.Prelude.{◌≡◌, ◌≢◌, ◌+◌, ℕ, Bool, true, false, ◌==◌, ◌<◌, ⊤, MatchBool, IsTrue, IsSome, ◌↔◌, ◌≤◌}
use Rattle.std.specs.Prelude.{List, [], ◌∷◌, ◌++◌, length, min, replicate, reverse, take, slice_get, swap_remove, vec_len, vec_capacity}
use Rattle.std.specs.Prelude.{Option, Some, None, Ok, Err}
use Rattle.std.specs.List.{list_any}
use Rattle.access_slots.specs.Locks.{mode_in, target, Rising}
use Rattle.access_slots.specs.declared.lock.Lock.{Lock}
use Rattle.access_slots.specs.declared.op.Reply.{Reply}
use Rattle.access_slots.specs.declared.op.Wire.{Wire}
use Rattle.access_slots.specs.declared.slot.Mode.{Mode}
use Rattle.access_slots.specs.declared.slot.Mode.TheVariants.{Read, Write}
use Rattle.access_slots.specs.declared.slot.Record.{Record}
use Rattle.call_results.specs.Results.{result_in, slots_in}
use Rattle.call_results.specs.declared.results.SlotResult.{SlotResult}
use Rattle.history.specs.Calls.{admitted, held}
use Rattle.history.specs.Anew.{begun}
use Rattle.history.specs.Flight.{given, low_water}
use Rattle.tc_log.specs.declared.event.Event.{Event}
use Rattle.tc_log.specs.declared.event.Event.TheVariants.{Admit}
use Rattle.tc_log.specs.Printed.{printed}
use Rattle.tc_log.specs.Reading.{ArePrinted, AreOnlyOnes, IsReadFault}
use Rattle.tc_log.specs.declared.read.LogFault.{LogFault}
use Rattle.transactions.specs.InFlight.{site_at}
use Rattle.transactions.specs.declared.Sent.{Sent}
use Rattle.transactions.specs.Legal.{Legal}
use Rattle.transactions.specs.Reached.{decls}
use Rattle.transactions.specs.Room.{each_one, total}
use Rattle.transactions.specs.Standing.{standing}
use Rattle.tc_core.specs.Core.{Core, Asking}
use Rattle.tc_core.specs.Admission.{IsAdmissible, IsRefused}
use Rattle.tc_core.specs.Blocked.{is_stranded, IsBlocked}
use Rattle.tc_core.specs.GivingUp.{IsOpenHere, with_given_up}
use Rattle.tc_core.specs.Lent.{wire_of}
use Rattle.tc_core.specs.Loaded.{number_of}
use Rattle.tc_core.specs.Loading.{load_refusal, IsFirstRefusal}
use Rattle.tc_core.specs.Recovery.{open_request, recovered, sent_in, AllReach, IsRecoverFault}
use Rattle.tc_core.specs.Redo.{news_fault, after_told, redo_reply, redo_behind, after_redo, IsRedone, after_redone}
use Rattle.tc_core.specs.Replies.{ask_reply, after_ask, undo_reply, after_undo, IsAnswer, after_answer, end_of, after_end, with_event}
use Rattle.tc_core.specs.declared.procs.LoadRefusal.{LoadRefusal}
use Rattle.tc_core.specs.Checkpointing.{MayCheckpoint, checkpointed, IsCheckpointFault}
use Rattle.tc_core.specs.declared.beginning.CheckpointFault.{CheckpointFault}
use Rattle.tc_core.specs.declared.recovery.RecoverFault.{RecoverFault}
use Rattle.tc_core.specs.declared.state.NewsFault.{NewsFault}
use Rattle.tc_core.specs.declared.state.Refusal.{Refusal}
use Rattle.embedding.specs.Codes.{news_number, checkpoint_number, read_number, read_place, recover_number, recover_place}
use Rattle.embedding.specs.Frames.{bit, IsOf, Names, SaysNothing, Carries, Brings, news_in, HasArgs, args_in, text_in, call_in}
use Rattle.embedding.specs.Frames.{HasName, IsNoName}
use Rattle.embedding.specs.Gathering.{GatheredBy, IsAsGathered, WhyNoBytes, WhyNoSlot, WhyNoNote, checked_of, IsProcedure, IsNoProcedure}
use Rattle.embedding.specs.Telling.{Sends, Tells, requests_of, EndsAs, TellsRefusal, TellsLoading, TellsRedo, TellsSite}
use Rattle.embedding.specs.declared.call.TheConstants.{BYTES, SLOT, CLEAR, NOTE, LOAD, FIND, ADMIT, BLOCKED, ASK, UNDO, WIRE, ANSWER}
use Rattle.embedding.specs.declared.call.TheConstants.{GIVE_UP, END, OPEN_COUNT, LOG_LENGTH, LOG_BYTES, SITE, TOLD, REDO_NEXT, REDONE}
use Rattle.embedding.specs.declared.call.TheConstants.{LOG_ANEW, LOW_WATER, RECOVER, OPEN_FROM, RETAKE, WAITING_FROM, LOCK_AT, REDO_BEHIND}
use Rattle.embedding.specs.declared.call.TheConstants.{RESULT}
use Rattle.embedding.specs.declared.codes.TheConstants.{BAD_FRAME, DOWN, MEMORY, NO_DC, NO_PLACE, NO_PROCEDURE, NO_SUCH_CALL, NO_TXN}
use Rattle.embedding.specs.declared.codes.TheConstants.{NOT_OVER, NOTHING_OPEN, STRANGER}
use Rattle.embedding.specs.declared.frame.Frame.{Frame}
use Rattle.embedding.specs.declared.tc_part.TcPart.{TcPart}

-- ---- procedures

-- what was handed in is loaded under the name in the frame
pub record Loads (p : TcPart) (f : Frame) (p' : TcPart) (f' : Frame) : Type 0 where
  pub fine : IsProcedure p.gathered.bytes.items p.gathered.slots.items f.word
  pub named : HasName f
  pub allowed : load_refusal p.state.dcs p.state.names (text_in f) p.gathered.slots.items ≡ None
  pub is : p'.state ≡ record p.state {
    procs = p.state.procs ++ checked_of p.gathered.bytes.items p.gathered.slots.items f.word ∷ [];
    names = p.state.names ++ text_in f ∷ [];
  }
  pub number : f'.word ≡ length p.state.procs

-- it is a procedure, but can't be loaded under this name, or here
pub record IsNotLoaded (p : TcPart) (f : Frame) (code : ℕ) (f' : Frame) : Type 0 where
  pub fine : IsProcedure p.gathered.bytes.items p.gathered.slots.items f.word
  pub named : HasName f
  pub why : LoadRefusal
  pub is : IsFirstRefusal (load_refusal p.state.dcs p.state.names (text_in f) p.gathered.slots.items) why
  pub told : TellsLoading why code f'

pub data WhyNotLoaded (p : TcPart) (f : Frame) (code : ℕ) (f' : Frame) : Type 0 where
  Wrongly : IsNoProcedure p.gathered f code f' → WhyNotLoaded p f code f'
  Unnamed : IsProcedure p.gathered.bytes.items p.gathered.slots.items f.word → IsNoName f code → WhyNotLoaded p f code f'
  Refused : IsNotLoaded p f code f' → WhyNotLoaded p f code f'

-- the number of the procedure with the name in the frame
pub record FindsProcedure (p : TcPart) (f : Frame) (f' : Frame) : Type 0 where
  pub named : HasName f
  pub is : number_of (text_in f) p.state.names ≡ Some f'.word

-- there is no name in the frame, or no procedure has it
pub data WhyNotFound (p : TcPart) (f : Frame) (code : ℕ) : Type 0 where
  Unnamed : IsNoName f code → WhyNotFound p f code
  Unknown : code ≡ NO_PROCEDURE → HasName f → number_of (text_in f) p.state.names ≡ None → WhyNotFound p f code

-- ---- the way back from a log

-- the bytes that were handed in are this log's rows, and no other's
pub record AreRowsOf (p : TcPart) (log : List Event) : Type 0 where
  pub printed : ArePrinted (reverse log) p.gathered.bytes.items
  pub only : AreOnlyOnes (reverse log) p.gathered.bytes.items

-- what happened is the log that was handed in, and of data components is known what was noted; then nothing is handed in any more
pub record Recovers (p : TcPart) (p' : TcPart) : Type 0 where
  pub log : List Event
  pub rows : AreRowsOf p log
  pub nothing_yet : p.state.events ≡ []
  pub count : length p.gathered.notes.items ≡ p.state.dcs
  pub legal : Legal p.state.procs log
  pub reaches : AllReach (begun log) p.gathered.notes.items
  pub is : p'.state ≡ recovered p.state log p.gathered.notes.items

-- the bytes are no log's
pub record IsNoLog (p : TcPart) (code : ℕ) (f' : Frame) : Type 0 where
  pub why : LogFault
  pub is : IsReadFault p.gathered.bytes.items why
  pub number : code ≡ read_number why
  pub place : f'.place ≡ read_place why

-- it doesn't come back from the log
pub record IsNotRecovered (p : TcPart) (code : ℕ) (f' : Frame) : Type 0 where
  pub log : List Event
  pub rows : AreRowsOf p log
  pub why : RecoverFault
  pub is : IsRecoverFault p.state log p.gathered.notes.items why
  pub number : code ≡ recover_number why
  pub place : f'.place ≡ recover_place why

-- want of memory aside
pub data IsLogRefused (p : TcPart) (code : ℕ) (f' : Frame) : Type 0 where
  Unread : IsNoLog p code f' → IsLogRefused p code f'
  Unfit : IsNotRecovered p code f' → IsLogRefused p code f'

abbrev pub WhyNotRecovered : TcPart → ℕ → Frame → Type 0
WhyNotRecovered p code f' = code ≢ MEMORY → IsLogRefused p code f'

-- ---- transactions

pub record Admits (p : TcPart) (f : Frame) (p' : TcPart) (f' : Frame) : Type 0 where
  pub few : HasArgs f
  pub admissible : IsAdmissible p.state (call_in f)
  pub serial : f'.txn ≡ admitted p.state.events + 1
  pub is : p'.state ≡ with_event p.state (Admit f'.txn f.word (args_in f))

pub record IsNotAdmitted (p : TcPart) (f : Frame) (code : ℕ) (f' : Frame) : Type 0 where
  pub why : Refusal
  pub is : IsRefused p.state (call_in f) why
  pub told : TellsRefusal why code f'

-- there are more arguments than a frame has room for, or no memory for a copy of some
pub data HasNoCall (f : Frame) (code : ℕ) : Type 0 where
  TooMany : code ≡ BAD_FRAME → 8 < f.count → HasNoCall f code
  NoMemory : code ≡ MEMORY → HasArgs f → 0 < f.count → HasNoCall f code

-- a request of each open transaction, of this call's too and one more don't find room among those that are kept
abbrev pub IsCrowded : TcPart → Type 0
IsCrowded p = vec_capacity p.requests < vec_len p.requests + (total each_one p.state.events + 2)

pub data WhyNotAdmitted (p : TcPart) (f : Frame) (code : ℕ) (f' : Frame) : Type 0 where
  Uncalled : HasNoCall f code → WhyNotAdmitted p f code f'
  Crowded : code ≡ MEMORY → HasArgs f → IsCrowded p → WhyNotAdmitted p f code f'
  Refused : HasArgs f → IsNotAdmitted p f code f' → WhyNotAdmitted p f code f'

-- a transaction with this serial number is open
abbrev pub IsOpen : TcPart → ℕ → Type 0
IsOpen p txn = IsSome (standing p.state.events txn)

-- none is
abbrev pub IsClosed : TcPart → ℕ → Type 0
IsClosed p txn = standing p.state.events txn ≡ None

-- there is no room for a request more
abbrev pub IsFull : TcPart → Type 0
IsFull p = vec_capacity p.requests ≤ vec_len p.requests

pub data WhyNotAsked (p : TcPart) (f : Frame) (code : ℕ) : Type 0 where
  Closed : code ≡ NO_TXN → IsClosed p f.txn → WhyNotAsked p f code
  NoMemory : code ≡ MEMORY → IsOpen p f.txn → IsFull p → WhyNotAsked p f code

pub record Asks (p : TcPart) (f : Frame) (p' : TcPart) (f' : Frame) : Type 0 where
  pub is_open : IsOpen p f.txn
  pub is : p'.state ≡ after_ask p.state (ask_reply p.state f.txn)
  pub told : Tells p'.state (ask_reply p.state f.txn) f'
  pub kept : p'.requests.items ≡ p.requests.items ++ requests_of (ask_reply p.state f.txn)

pub record Undoes (p : TcPart) (f : Frame) (p' : TcPart) (f' : Frame) : Type 0 where
  pub is_open : IsOpen p f.txn
  pub is : p'.state ≡ after_undo p.state (undo_reply p.state f.txn)
  pub told : Tells p'.state (undo_reply p.state f.txn) f'
  pub kept : p'.requests.items ≡ p.requests.items ++ requests_of (undo_reply p.state f.txn)

-- none of the first so many requests is of this transaction
abbrev pub NoneOf : List Asking → ℕ → ℕ → Type 0
NoneOf rs txn count = (k : ℕ) → k < count → (r : Asking) → slice_get rs k ≡ Some r → r.txn ≡ txn → ⊥

-- no request of this transaction is kept
abbrev pub HasNoRequest : List Asking → ℕ → Type 0
HasNoRequest rs txn = NoneOf rs txn (length rs)

-- this request is kept at this place, the first of this transaction
pub record IsKeptAt (rs : List Asking) (txn place : ℕ) (request : Asking) : Type 0 where
  pub at : slice_get rs place ≡ Some request
  pub of : request.txn ≡ txn
  pub first : NoneOf rs txn place

pub record IsRequestOf (rs : List Asking) (txn place : ℕ) : Type 0 where
  pub request : Asking
  pub is : IsKeptAt rs txn place request

pub record Resends (p : TcPart) (f : Frame) (f' : Frame) : Type 0 where
  pub place : ℕ
  pub request : Asking
  pub kept : IsKeptAt p.requests.items f.txn place request
  pub wire : Wire
  pub is : wire_of p.state request ≡ Ok wire
  pub told : Carries f' wire

-- the request is kept, and waits for a data component that is down
pub record IsHeldBack (p : TcPart) (f : Frame) : Type 0 where
  pub place : ℕ
  pub request : Asking
  pub kept : IsKeptAt p.requests.items f.txn place request
  pub down : wire_of p.state request ≡ Err (record {})

pub data WhyNotResent (p : TcPart) (f : Frame) (code : ℕ) : Type 0 where
  Unheld : code ≡ NOTHING_OPEN → HasNoRequest p.requests.items f.txn → WhyNotResent p f code
  HeldBack : code ≡ DOWN → IsHeldBack p f → WhyNotResent p f code

-- the open request, which nobody held, is made again, and kept
pub record IsRetaken (p : TcPart) (f : Frame) (p' : TcPart) (f' : Frame) : Type 0 where
  pub unheld : HasNoRequest p.requests.items f.txn
  pub request : Asking
  pub is : open_request p.state f.txn ≡ Some request
  pub told : Sends request f' (wire_of p.state request)
  pub kept : p'.requests.items ≡ p.requests.items ++ request ∷ []

-- the request that is kept is told
pub record IsHeld (p : TcPart) (f : Frame) (p' : TcPart) (f' : Frame) : Type 0 where
  pub is_open : IsOpen p f.txn
  pub place : ℕ
  pub request : Asking
  pub held : IsKeptAt p.requests.items f.txn place request
  pub told : Sends request f' (wire_of p.state request)
  pub kept : p'.requests.items ≡ p.requests.items

pub data Retakes (p : TcPart) (f : Frame) (p' : TcPart) (f' : Frame) : Type 0 where
  Again : p'.state ≡ p.state → IsRetaken p f p' f' → Retakes p f p' f'
  Held : p'.state ≡ p.state → IsHeld p f p' f' → Retakes p f p' f'

pub data WhyNotRetaken (p : TcPart) (f : Frame) (code : ℕ) : Type 0 where
  Closed : code ≡ NO_TXN → IsClosed p f.txn → WhyNotRetaken p f code
  NoMemory : code ≡ MEMORY → IsOpen p f.txn → HasNoRequest p.requests.items f.txn → IsFull p → WhyNotRetaken p f code
  Idle : code ≡ NOTHING_OPEN → IsOpen p f.txn → HasNoRequest p.requests.items f.txn → open_request p.state f.txn ≡ None
      → WhyNotRetaken p f code

pub record Answers (p : TcPart) (f : Frame) (p' : TcPart) : Type 0 where
  pub place : ℕ
  pub request : Asking
  pub kept : IsKeptAt p.requests.items f.txn place request
  pub reply : Reply
  pub brought : Brings f reply
  pub fit : IsAnswer p.state request reply
  pub is : p'.state ≡ after_answer p.state request reply.said
  pub left : p'.requests.items ≡ swap_remove p.requests.items place request

-- the reply isn't one to the request, which is kept
pub record IsStranger (p : TcPart) (f : Frame) (p' : TcPart) : Type 0 where
  pub place : ℕ
  pub request : Asking
  pub kept : IsKeptAt p.requests.items f.txn place request
  pub reply : Reply
  pub brought : Brings f reply
  pub unfit : IsAnswer p.state request reply → ⊥
  pub back : p'.requests.items ≡ swap_remove p.requests.items place request ++ request ∷ []

pub data WhyNotAnswered (p : TcPart) (f : Frame) (code : ℕ) (p' : TcPart) : Type 0 where
  Unsaid : code ≡ BAD_FRAME → SaysNothing f → WhyNotAnswered p f code p'
  Unheld : code ≡ NOTHING_OPEN → (reply : Reply) → Brings f reply → HasNoRequest p.requests.items f.txn → WhyNotAnswered p f code p'
  Strange : code ≡ STRANGER → IsStranger p f p' → WhyNotAnswered p f code p'

pub record GivesUp (p : TcPart) (f : Frame) (p' : TcPart) (f' : Frame) : Type 0 where
  pub place : ℕ
  pub request : Asking
  pub kept : IsKeptAt p.requests.items f.txn place request
  pub number : f'.number ≡ request.number
  pub open_here : IsOpenHere p.state request → p'.state ≡ with_given_up p.state request.number
  pub elsewhere : (IsOpenHere p.state request → ⊥) → p'.state ≡ p.state
  pub left : p'.requests.items ≡ swap_remove p.requests.items place request

pub record Ends (p : TcPart) (f : Frame) (p' : TcPart) (f' : Frame) : Type 0 where
  pub is : p'.state ≡ after_end p.state f.txn (end_of p.state f.txn)
  pub told : EndsAs (end_of p.state f.txn) f'
  pub place : f'.place ≡ length p.state.events

pub data WhyNotEnded (p : TcPart) (f : Frame) (code : ℕ) : Type 0 where
  Closed : code ≡ NO_TXN → IsClosed p f.txn → WhyNotEnded p f code
  Early : code ≡ NOT_OVER → IsOpen p f.txn → end_of p.state f.txn ≡ None → WhyNotEnded p f code

-- ---- data components that restart

pub record Hears (p : TcPart) (f : Frame) (p' : TcPart) : Type 0 where
  pub taken : news_fault p.state f.dc (news_in f) ≡ None
  pub is : p'.state ≡ after_told p.state f.dc (news_in f)

pub record WhyNotHeard (p : TcPart) (f : Frame) (code : ℕ) : Type 0 where
  pub why : NewsFault
  pub is : news_fault p.state f.dc (news_in f) ≡ Some why
  pub number : code ≡ news_number why

pub record Redoes (p : TcPart) (f : Frame) (code : ℕ) (p' : TcPart) (f' : Frame) : Type 0 where
  pub is : p'.state ≡ after_redo p.state f.dc (redo_reply p.state f.dc)
  pub told : TellsRedo (redo_reply p.state f.dc) code f'

pub record HasRedone (p : TcPart) (f : Frame) (p' : TcPart) : Type 0 where
  pub reply : Reply
  pub brought : Brings f reply
  pub fit : IsRedone p.state f.dc reply
  pub is : p'.state ≡ after_redone p.state f.dc reply.number

-- the reply isn't one to the operation under redo
pub record IsNotRedone (p : TcPart) (f : Frame) : Type 0 where
  pub reply : Reply
  pub brought : Brings f reply
  pub unfit : IsRedone p.state f.dc reply → ⊥

pub data WhyNotRedone (p : TcPart) (f : Frame) (code : ℕ) : Type 0 where
  Unsaid : code ≡ BAD_FRAME → SaysNothing f → WhyNotRedone p f code
  Strange : code ≡ STRANGER → IsNotRedone p f → WhyNotRedone p f code

-- ---- a log that begins anew

-- the least mark that data components' checkpoints have kept, as the frame says it, for each of them
abbrev pub kept_in : TcPart → Frame → List ℕ
kept_in p f = replicate p.state.dcs f.low_water

pub record BeginsAnew (p : TcPart) (f : Frame) (p' : TcPart) : Type 0 where
  pub may : MayCheckpoint p.state (kept_in p f)
  pub is : p'.state ≡ checkpointed p.state

pub record IsNotBegun (p : TcPart) (f : Frame) (code : ℕ) : Type 0 where
  pub why : CheckpointFault
  pub is : IsCheckpointFault p.state (kept_in p f) why
  pub number : code ≡ checkpoint_number why

-- want of memory aside
abbrev pub WhyNotBegun : TcPart → Frame → ℕ → Type 0
WhyNotBegun p f code = code ≢ MEMORY → IsNotBegun p f code

-- ---- calls that only look

pub record ShowsEvent (p : TcPart) (f : Frame) (f' : Frame) : Type 0 where
  pub event : Event
  pub at : slice_get (reverse p.state.events) f.place ≡ Some event
  pub count : f'.count ≡ min (length (printed event)) 256
  pub bytes : text_in f' ≡ take f'.count (printed event)

-- there is no such place, or no memory for the bytes of the event there
pub data WhyNoEvent (p : TcPart) (f : Frame) (code : ℕ) : Type 0 where
  Beyond : code ≡ NO_PLACE → slice_get (reverse p.state.events) f.place ≡ None → WhyNoEvent p f code
  NoMemory : code ≡ MEMORY → (event : Event) → slice_get (reverse p.state.events) f.place ≡ Some event → WhyNoEvent p f code

-- what is known of a data component that is there
pub record ShowsSite (p : TcPart) (f : Frame) (f' : Frame) : Type 0 where
  pub there : f.dc < p.state.dcs
  pub told : TellsSite (site_at p.state.sites f.dc) f'

pub record SaysBlocked (p : TcPart) (f : Frame) (f' : Frame) : Type 0 where
  pub few : HasArgs f
  pub blocked : Bool
  pub is : IsTrue blocked ↔ IsBlocked p.state (call_in f)
  pub told : f'.word ≡ bit blocked

-- this transaction was admitted at this place of the log, by a call of this procedure, and is open
pub record IsOpenAt (c : Core) (place : ℕ) (txn : ℕ) (proc : ℕ) : Type 0 where
  pub args : List ℕ
  pub at : slice_get (reverse c.events) place ≡ Some (Admit txn proc args)
  pub stands : IsSome (standing c.events txn)

-- none that is open was admitted from this place on up to that one
abbrev pub NoneIsOpen : Core → ℕ → ℕ → Type 0
NoneIsOpen c from to = (place txn proc : ℕ) → from ≤ place → place < to → IsOpenAt c place txn proc → ⊥

pub record HasRequest (rs : List Asking) (txn : ℕ) : Type 0 where
  pub place : ℕ
  pub is : IsRequestOf rs txn place

-- whether the transaction's request is kept (1) or nobody holds it (2)
pub data SaysHeld (rs : List Asking) (txn : ℕ) (kind : ℕ) : Type 0 where
  Held : kind ≡ 1 → HasRequest rs txn → SaysHeld rs txn kind
  Unheld : kind ≡ 2 → HasNoRequest rs txn → SaysHeld rs txn kind

pub record ShowsAwaited (rs : List Asking) (txn : ℕ) (sent : Sent) (f : Frame) : Type 0 where
  pub number : f.number ≡ sent.number
  pub op : Names f sent.op
  pub held : SaysHeld rs txn f.kind

-- the frame says what the transaction waits for, or that it waits for nothing (3)
abbrev pub SaysAwaited : List Asking → ℕ → Option Sent → Frame → Type 0
SaysAwaited rs txn None f = f.kind ≡ 3
SaysAwaited rs txn (Some sent) f = ShowsAwaited rs txn sent f

-- the first open transaction from a place of the log on, what it waits for, and whether it is in doubt or stuck
pub record ShowsOpen (p : TcPart) (f : Frame) (f' : Frame) : Type 0 where
  pub behind : f.place ≤ f'.place
  pub is_open : IsOpenAt p.state f'.place f'.txn f'.word
  pub first : NoneIsOpen p.state f.place f'.place
  pub awaited : SaysAwaited p.requests.items f'.txn (sent_in (standing p.state.events f'.txn)) f'
  pub stranded : f'.count ≡ bit (is_stranded p.state f'.txn)

-- the transaction is open, was admitted at this place of the log, and waits for this operation, at this data component
pub record WaitsAt (c : Core) (dc place txn proc : ℕ) (sent : Sent) : Type 0 where
  pub is_open : IsOpenAt c place txn proc
  pub waits : sent_in (standing c.events txn) ≡ Some sent
  pub here : (target sent.op).dc ≡ dc

-- none waits there that was admitted from this place on up to that one
abbrev pub NoneWaits : Core → ℕ → ℕ → ℕ → Type 0
NoneWaits c dc from to = (place txn proc : ℕ) (sent : Sent) → from ≤ place → place < to → WaitsAt c dc place txn proc sent → ⊥

-- the first transaction from a place of the log on that waits for the frame's data component, for what, and whether it is in doubt
pub record ShowsWaiting (p : TcPart) (f : Frame) (f' : Frame) : Type 0 where
  pub behind : f.place ≤ f'.place
  pub sent : Sent
  pub waits : WaitsAt p.state f.dc f'.place f'.txn f'.word sent
  pub first : NoneWaits p.state f.dc f.place f'.place
  pub awaited : ShowsAwaited p.requests.items f'.txn sent f'
  pub stranded : f'.count ≡ bit (is_stranded p.state f'.txn)

-- these are the locks that the transaction holds, by rising record
pub record AreItsLocks (c : Core) (txn : ℕ) (locks : List Lock) : Type 0 where
  pub rising : Rising locks
  pub all : (r : Record) → mode_in locks r ≡ held (decls c.procs) c.events txn r

abbrev pub mode_number : Mode → ℕ
mode_number Read = 1
mode_number Write = 2

-- of the open transaction that was admitted at a place of the log the lock of this number, from 0: its record, and whether it is for
-- reading alone (1) or for both (2)
pub record ShowsLock (p : TcPart) (f : Frame) (f' : Frame) : Type 0 where
  pub proc : ℕ
  pub is_open : IsOpenAt p.state f.place f'.txn proc
  pub locks : List Lock
  pub its : AreItsLocks p.state f'.txn locks
  pub lock : Lock
  pub at : slice_get locks f.word ≡ Some lock
  pub named : IsOf f' lock.«record»
  pub mode : f'.kind ≡ mode_number lock.mode

-- none is open that was admitted at this place, or it holds no more locks than that
pub data HasNoLock (c : Core) (place number : ℕ) : Type 0 where
  Closed : ((txn proc : ℕ) → IsOpenAt c place txn proc → ⊥) → HasNoLock c place number
  Past : (txn proc : ℕ) (locks : List Lock) → IsOpenAt c place txn proc → AreItsLocks c txn locks → length locks ≤ number → HasNoLock c place number

-- what the slot of the open transaction holds, whose run has ended: the bytes of its buffer, and whether there is a record
pub record ShowsResult (p : TcPart) (f : Frame) (f' : Frame) : Type 0 where
  pub held : SlotResult
  pub is : result_in p.state.procs (standing p.state.events f.txn) f.place ≡ Some held
  pub value : f'.value ≡ held.value
  pub there : f'.word ≡ bit held.is_there

-- how many slots its procedure declares
abbrev pub slots_of : TcPart → ℕ → ℕ
slots_of p txn = slots_in p.state.procs (standing p.state.events txn)

-- no such transaction is open, its procedure has no such slot, or its run goes on
pub data WhyNoResult (p : TcPart) (f : Frame) (code : ℕ) : Type 0 where
  Closed : code ≡ NO_TXN → IsClosed p f.txn → WhyNoResult p f code
  Undeclared : code ≡ NO_PLACE → IsOpen p f.txn → slots_of p f.txn ≤ f.place → WhyNoResult p f code
  Early : code ≡ NOT_OVER → IsOpen p f.txn → f.place < slots_of p f.txn → result_in p.state.procs (standing p.state.events f.txn) f.place ≡ None
      → WhyNoResult p f code

-- the calls that a transaction component has
abbrev pub is_tc_call : ℕ → Bool
is_tc_call what =
    list_any (λ c. what == c)
    (BYTES ∷ SLOT ∷ CLEAR ∷ LOAD ∷ FIND ∷ NOTE ∷ RECOVER ∷ ADMIT ∷ BLOCKED ∷ ASK ∷ UNDO ∷ WIRE ∷ ANSWER ∷ GIVE_UP ∷ END ∷ OPEN_COUNT
    ∷ LOG_LENGTH ∷ LOG_BYTES ∷ SITE ∷ TOLD ∷ REDO_NEXT ∷ REDONE ∷ LOG_ANEW ∷ LOW_WATER ∷ OPEN_FROM ∷ RETAKE ∷ LOCK_AT ∷ WAITING_FROM
    ∷ REDO_BEHIND ∷ RESULT ∷ [])

-- what a call has done that answered 0, by its number; one that isn't named here leaves the transaction component as it was
abbrev pub DoneBy : ℕ → TcPart → Frame → TcPart → Frame → Type 0
DoneBy what p f p' f' =
    MatchBool (what == LOAD) (Loads p f p' f')
    (MatchBool (what == ADMIT) (Admits p f p' f')
    (MatchBool (what == ASK) (Asks p f p' f')
    (MatchBool (what == UNDO) (Undoes p f p' f')
    (MatchBool (what == ANSWER) (Answers p f p')
    (MatchBool (what == GIVE_UP) (GivesUp p f p' f')
    (MatchBool (what == END) (Ends p f p' f')
    (MatchBool (what == TOLD) (Hears p f p')
    (MatchBool (what == REDO_NEXT) (Redoes p f 0 p' f')
    (MatchBool (what == REDONE) (HasRedone p f p')
    (MatchBool (what == LOG_ANEW) (BeginsAnew p f p')
    (MatchBool (what == RECOVER) (Recovers p p')
    (MatchBool (what == RETAKE) (Retakes p f p' f')
    (p'.state ≡ p.state)))))))))))))

abbrev pub KeepsRequests : TcPart → TcPart → Type 0
KeepsRequests p p' = p'.requests.items ≡ p.requests.items

-- what a call that answered 0 leaves of the requests that are kept, by its number: all, but for those that keep one more (Asks, Undoes,
-- Retakes) or one less (Answers, GivesUp)
abbrev pub RequestsBy : ℕ → TcPart → TcPart → Type 0
RequestsBy what p p' =
    MatchBool (what == ASK) ⊤
    (MatchBool (what == UNDO) ⊤
    (MatchBool (what == ANSWER) ⊤
    (MatchBool (what == GIVE_UP) ⊤
    (MatchBool (what == RETAKE) ⊤
    (KeepsRequests p p')))))

-- what such a call says, that has changed nothing
abbrev pub ShownBy : ℕ → TcPart → Frame → Frame → Type 0
ShownBy what p f f' =
    MatchBool (what == FIND) (FindsProcedure p f f')
    (MatchBool (what == BLOCKED) (SaysBlocked p f f')
    (MatchBool (what == WIRE) (Resends p f f')
    (MatchBool (what == OPEN_COUNT) (f'.word ≡ total each_one p.state.events)
    (MatchBool (what == LOG_LENGTH) (f'.word ≡ length p.state.events)
    (MatchBool (what == LOG_BYTES) (ShowsEvent p f f')
    (MatchBool (what == SITE) (ShowsSite p f f')
    (MatchBool (what == LOW_WATER) ((f'.low_water ≡ low_water p.state.events) × (f'.number ≡ given p.state.events))
    (MatchBool (what == OPEN_FROM) (ShowsOpen p f f')
    (MatchBool (what == WAITING_FROM) (ShowsWaiting p f f')
    (MatchBool (what == LOCK_AT) (ShowsLock p f f')
    (MatchBool (what == REDO_BEHIND) (TellsRedo (redo_behind p.state f.dc f.number) 0 f')
    (MatchBool (what == RESULT) (ShowsResult p f f')
    ⊤))))))))))))

-- why a call did nothing, by its number; one that isn't named here only where there is no such call
abbrev pub RefusedBy : ℕ → TcPart → Frame → ℕ → TcPart → Frame → Type 0
RefusedBy what p f code p' f' =
    MatchBool (what == BYTES) (WhyNoBytes p.gathered f code)
    (MatchBool (what == SLOT) (WhyNoSlot p.gathered f code)
    (MatchBool (what == NOTE) (WhyNoNote p.gathered f code)
    (MatchBool (what == LOAD) (WhyNotLoaded p f code f')
    (MatchBool (what == FIND) (WhyNotFound p f code)
    (MatchBool (what == ADMIT) (WhyNotAdmitted p f code f')
    (MatchBool (what == BLOCKED) (HasNoCall f code)
    (MatchBool (what == ASK) (WhyNotAsked p f code)
    (MatchBool (what == UNDO) (WhyNotAsked p f code)
    (MatchBool (what == ANSWER) (WhyNotAnswered p f code p')
    (MatchBool (what == GIVE_UP) ((code ≡ NOTHING_OPEN) × HasNoRequest p.requests.items f.txn)
    (MatchBool (what == WIRE) (WhyNotResent p f code)
    (MatchBool (what == END) (WhyNotEnded p f code)
    (MatchBool (what == LOG_BYTES) (WhyNoEvent p f code)
    (MatchBool (what == SITE) ((code ≡ NO_DC) × (p.state.dcs ≤ f.dc))
    (MatchBool (what == TOLD) (WhyNotHeard p f code)
    (MatchBool (what == REDO_NEXT) (TellsRedo (redo_reply p.state f.dc) code f')
    (MatchBool (what == REDONE) (WhyNotRedone p f code)
    (MatchBool (what == LOG_ANEW) (WhyNotBegun p f code)
    (MatchBool (what == RECOVER) (WhyNotRecovered p code f')
    (MatchBool (what == RETAKE) (WhyNotRetaken p f code)
    (MatchBool (what == OPEN_FROM) ((code ≡ NO_PLACE) × NoneIsOpen p.state f.place (length p.state.events))
    (MatchBool (what == WAITING_FROM) ((code ≡ NO_PLACE) × NoneWaits p.state f.dc f.place (length p.state.events))
    (MatchBool (what == LOCK_AT) ((code ≡ NO_PLACE) × HasNoLock p.state f.place f.word)
    (MatchBool (what == REDO_BEHIND) (TellsRedo (redo_behind p.state f.dc f.number) code f')
    (MatchBool (what == RESULT) (WhyNoResult p f code)
    ((code ≡ NO_SUCH_CALL) × (is_tc_call what ≡ false)))))))))))))))))))))))))))

-- refused means unchanged; the reply of a stranger aside, whose request is kept in another place (IsStranger)
pub record IsServed (p : TcPart) (f : Frame) (code : ℕ) (p' : TcPart) (f' : Frame) : Type 0 where
  pub refused : code ≢ 0 → p'.state ≡ p.state
  pub why : code ≢ 0 → RefusedBy f.what p f code p' f'
  pub known : code ≡ 0 → is_tc_call f.what ≡ true
  pub done : code ≡ 0 → DoneBy f.what p f p' f'
  pub shown : code ≡ 0 → ShownBy f.what p f f'
  pub gathers : code ≡ 0 → GatheredBy f.what p.gathered f p'.gathered
  pub gathers_nothing : code ≢ 0 → IsAsGathered p.gathered p'.gathered
  pub keeps : code ≡ 0 → RequestsBy f.what p p'
  pub keeps_all : code ≢ 0 → code ≢ STRANGER → KeepsRequests p p'
