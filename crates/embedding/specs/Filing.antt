-- What one call makes of a transaction component and its log's file.
use Rattle.std.specs.Prelude.{◌≡◌, ◌≢◌, ◌≤◌, ℕ, Bool, true, false, ◌==◌, ⊤, MatchBool, List, [], ◌∷◌, ◌++◌, length, min, take, drop, Option, Some, None}
use Rattle.std.specs.List.{list_any}
use Rattle.history.specs.Anew.{begun}
use Rattle.history.specs.Flight.{given}
use Rattle.transactions.specs.Legal.{Legal}
use Rattle.tc_core.specs.Core.{Core, loaded_in}
use Rattle.tc_core.specs.Recovery.{recovered, AllReach, IsRecoverFault}
use Rattle.tc_core.specs.declared.recovery.RecoverFault.{RecoverFault}
use Rattle.log_file.specs.declared.header.Header.{Header}
use Rattle.log_file.specs.Stored.{MayBegin}
use Rattle.procedure_digest.specs.Header.{header_of}
use Rattle.engine_log.specs.Handing.{says_session, GoesOn, IsAheadFault}
use Rattle.engine_log.specs.Back.{IsBack, IsBackFault}
use Rattle.engine_log.specs.declared.ahead.AheadFault.{AheadFault}
use Rattle.engine_log.specs.declared.ahead.EngineLog.{EngineLog}
use Rattle.engine_log.specs.declared.back.Back.{Back}
use Rattle.engine_log.specs.declared.back.BackFault.{BackFault}
use Rattle.embedding.specs.Codes.{ahead_number, back_number, back_place, recover_number, recover_place}
use Rattle.embedding.specs.Frames.{text_in}
use Rattle.embedding.specs.Gathering.{HasNothing, IsAsGathered}
use Rattle.embedding.specs.Serving.{KeepsRequests, IsServed}
use Rattle.embedding.specs.declared.call.TheConstants.{FILE_AHEAD, FILE_BYTES, FILE_BACK, LOG_ANEW, SESSION, SET_SESSION}
use Rattle.embedding.specs.declared.codes.TheConstants.{BAD_FRAME, BEGUN, MEMORY, SESSION_STAYS}
use Rattle.embedding.specs.declared.filed_part.FiledPart.{FiledPart}
use Rattle.embedding.specs.declared.frame.Frame.{Frame}
use Rattle.embedding.specs.declared.tc_part.TcPart.{TcPart}

-- the header of the log of the procedures that are loaded
abbrev pub own_header : Core → Header
own_header c = header_of (loaded_in c)

-- ---- what is written ahead

-- behind what is prepared stand the bytes that the file lacks
pub record Prepares (p : FiledPart) (p' : FiledPart) (f' : Frame) : Type 0 where
  pub bytes : List ℕ
  pub behind : p'.prepared ≡ p.prepared ++ bytes
  pub goes_on : GoesOn p.file p.part.state bytes p'.file
  pub told : f'.word ≡ length p'.prepared
  pub part : p'.part ≡ p.part

pub record WhyNotPrepared (p : FiledPart) (code : ℕ) : Type 0 where
  pub why : AheadFault
  pub is : IsAheadFault p.file p.part.state why
  pub number : code ≡ ahead_number why

-- the first bytes of what is prepared are in the frame, and the others are left
pub record HandsOut (p : FiledPart) (p' : FiledPart) (f' : Frame) : Type 0 where
  pub count : f'.count ≡ min (length p.prepared) 256
  pub bytes : text_in f' ≡ take f'.count p.prepared
  pub left : p'.prepared ≡ drop f'.count p.prepared
  pub file : p'.file ≡ p.file
  pub part : p'.part ≡ p.part

-- ---- the way back

-- nothing has happened, and nothing of a file was prepared
pub record IsNew (p : FiledPart) : Type 0 where
  pub unbegun : p.file.header ≡ None
  pub no_event : p.part.state.events ≡ []

-- what happened is what the file says, and of data components is known what it notes
pub record ComesBack (p : TcPart) (back : Back) (p' : TcPart) : Type 0 where
  pub nothing_yet : p.state.events ≡ []
  pub count : length back.file.notes.items ≡ p.state.dcs
  pub legal : Legal p.state.procs back.log.events
  pub reaches : AllReach (begun back.log.events) back.file.notes.items
  pub is : p'.state ≡ recovered p.state back.log.events back.file.notes.items

-- it doesn't come back from what the file says
pub record IsUnfit (p : TcPart) (back : Back) (code place : ℕ) : Type 0 where
  pub why : RecoverFault
  pub is : IsRecoverFault p.state back.log.events back.file.notes.items why
  pub number : code ≡ recover_number why
  pub place_is : place ≡ recover_place why

-- want of memory aside
abbrev pub WhyNotBack : TcPart → Back → ℕ → ℕ → Type 0
WhyNotBack p back code place = code ≢ MEMORY → IsUnfit p back code place

-- the session that the file says; where it says none, the one that was set
abbrev pub kept_session : Option ℕ → Option ℕ → Option ℕ
kept_session None set = set
kept_session (Some said) set = Some said

abbrev pub keeping_session : EngineLog → EngineLog → EngineLog
keeping_session file was = record file { session = kept_session file.session was.session }

-- the file whose bytes were handed in says nothing yet: it is empty, or may be the beginning of a first frame; or it says what happened, and
-- what is prepared from then on goes on behind its whole frames
pub data TakesBack (p : FiledPart) (p' : FiledPart) (whole : ℕ) : Type 0 where
  Unwritten : MayBegin p.part.gathered.bytes.items → p'.part.state ≡ p.part.state
      → p'.file ≡ p.file → whole ≡ 0 → TakesBack p p' whole
  Written : (back : Back) → IsBack (own_header p.part.state) p.part.gathered.bytes.items back → ComesBack p.part back p'.part
      → p'.file ≡ keeping_session back.file p.file → whole ≡ back.whole → TakesBack p p' whole

pub record IsUntaken (p : FiledPart) (code place : ℕ) : Type 0 where
  pub why : BackFault
  pub is : IsBackFault (own_header p.part.state) p.part.gathered.bytes.items why
  pub number : code ≡ back_number why
  pub place_is : place ≡ back_place why

pub data WhyNotTaken (p : FiledPart) (code place : ℕ) : Type 0 where
  Begun : code ≡ BEGUN → place ≡ 0 → (IsNew p → ⊥) → WhyNotTaken p code place
  Unread : IsNew p → IsUntaken p code place → WhyNotTaken p code place
  Unfit : IsNew p → (back : Back) → IsBack (own_header p.part.state) p.part.gathered.bytes.items back → WhyNotBack p.part back code place
      → WhyNotTaken p code place

-- and then nothing is handed in any more
pub record HasTaken (p : FiledPart) (p' : FiledPart) (f' : Frame) : Type 0 where
  pub new : IsNew p
  pub taken : TakesBack p p' f'.word
  pub prepared : p'.prepared ≡ p.prepared
  pub nothing : HasNothing p'.part.gathered
  pub requests : KeepsRequests p.part p'.part

-- ---- the session

-- as the frame says it: none is 0
abbrev pub session_number : Option ℕ → ℕ
session_number None = 0
session_number (Some session) = session

pub record TellsSession (p : FiledPart) (p' : FiledPart) (f' : Frame) : Type 0 where
  pub told : f'.word ≡ session_number p.file.session
  pub same : p' ≡ p

-- the next header has the one in the frame
pub record SetsSession (p : FiledPart) (f : Frame) (p' : FiledPart) : Type 0 where
  pub unwired : given p.part.state.events ≡ 0
  pub unsaid : says_session p.file.header ≡ false
  pub is : p' ≡ record p { file = record p.file { session = Some f.word } }

-- numbers were given out, so that a wire may have one; the file says its session; or the frame has none
pub data WhyNoSession (p : FiledPart) (f : Frame) (code : ℕ) : Type 0 where
  Wired : code ≡ SESSION_STAYS → 1 ≤ given p.part.state.events → WhyNoSession p f code
  Said : code ≡ SESSION_STAYS → says_session p.file.header ≡ true → WhyNoSession p f code
  NoNumber : code ≡ BAD_FRAME → f.word ≡ 0 → WhyNoSession p f code

-- ---- calls by their numbers

-- what is prepared from then on is a new file's, of the same session
pub record IsFileAnew (p : FiledPart) (p' : FiledPart) : Type 0 where
  pub unbegun : p'.file.header ≡ None
  pub session : p'.file.session ≡ p.file.session
  pub nothing : p'.prepared ≡ []

-- neither what is prepared nor how far that is has changed
pub record HasSameFile (p : FiledPart) (p' : FiledPart) : Type 0 where
  pub file : p'.file ≡ p.file
  pub prepared : p'.prepared ≡ p.prepared

-- the calls for the log's file
abbrev pub is_file_call : ℕ → Bool
is_file_call what = list_any (λ c. what == c) (FILE_AHEAD ∷ FILE_BYTES ∷ FILE_BACK ∷ SESSION ∷ SET_SESSION ∷ [])

-- what a call that answered 0 makes of the file, by its number
abbrev pub FiledBy : ℕ → FiledPart → Frame → FiledPart → Frame → Type 0
FiledBy what p f p' f' =
    MatchBool (what == FILE_AHEAD) (Prepares p p' f')
    (MatchBool (what == FILE_BYTES) (HandsOut p p' f')
    (MatchBool (what == FILE_BACK) (HasTaken p p' f')
    (MatchBool (what == SESSION) (TellsSession p p' f')
    (MatchBool (what == SET_SESSION) (SetsSession p f p')
    (MatchBool (what == LOG_ANEW) (IsFileAnew p p')
    (HasSameFile p p'))))))

-- why one that is for the file did nothing, by its number
abbrev pub UnfiledBy : ℕ → FiledPart → Frame → ℕ → Frame → Type 0
UnfiledBy what p f code f' =
    MatchBool (what == FILE_AHEAD) (WhyNotPrepared p code)
    (MatchBool (what == FILE_BYTES) ⊥
    (MatchBool (what == FILE_BACK) (WhyNotTaken p code f'.place)
    (MatchBool (what == SESSION) ⊥
    (MatchBool (what == SET_SESSION) (WhyNoSession p f code)
    ⊤))))

-- refused means unchanged
pub record IsFiled (p : FiledPart) (f : Frame) (code : ℕ) (p' : FiledPart) (f' : Frame) : Type 0 where
  pub refused : code ≢ 0 → p'.part.state ≡ p.part.state
  pub kept : code ≢ 0 → HasSameFile p p'
  pub filed : code ≡ 0 → FiledBy f.what p f p' f'
  pub why : code ≢ 0 → UnfiledBy f.what p f code f'
  pub rest : code ≢ 0 → is_file_call f.what ≡ true → IsAsGathered p.part.gathered p'.part.gathered × KeepsRequests p.part p'.part
  -- every other call is the transaction component's
  pub served : is_file_call f.what ≡ false → IsServed p.part f code p'.part f'
