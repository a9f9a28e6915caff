-- What one call makes of an engine.
use Rattle.std.specs.Prelude.{◌≡◌, ◌≢◌, ◌<◌, ◌≤◌, ℕ, ◌==◌, MatchBool, [], replicate, None}
use Rattle.data_component.specs.Store.{Store, empty}
use Rattle.transactions.specs.InFlight.{untold}
use Rattle.embedding.specs.Gathering.{HasNothing}
use Rattle.embedding.specs.Keeping.{IsKept}
use Rattle.embedding.specs.Programs.{IsRun}
use Rattle.embedding.specs.Filing.{IsFiled}
use Rattle.embedding.specs.Sound.{IsSound}
use Rattle.embedding.specs.declared.call.TheConstants.{START_TC, START_DC, START_CODE}
use Rattle.embedding.specs.declared.codes.TheConstants.{BAD_FRAME, MEMORY, NO_SUCH_CALL}
use Rattle.embedding.specs.declared.code_part.CodePart.{CodePart}
use Rattle.embedding.specs.declared.engine.Engine.{Engine}
use Rattle.embedding.specs.declared.engine.Body.{Body}
use Rattle.embedding.specs.declared.engine.Body.TheVariants.{Empty, Tc, Dc, Code}
use Rattle.embedding.specs.declared.frame.Frame.{Frame}
use Rattle.embedding.specs.declared.filed_part.FiledPart.{FiledPart}

-- ---- beginning

-- a transaction component in which nothing has happened
pub record BeginsTc (f : Frame) (body : Body) : Type 0 where
  pub part : FiledPart
  pub is : body ≡ Tc part
  pub few : f.word ≤ 65535
  pub dcs : part.part.state.dcs ≡ f.word
  pub procs : (part.part.state.procs ≡ []) × (part.part.state.names ≡ [])
  pub events : part.part.state.events ≡ []
  pub given_up : part.part.state.given_up ≡ []
  pub sites : part.part.state.sites ≡ replicate f.word untold
  pub requests : part.part.requests.items ≡ []
  pub gathered : HasNothing part.part.gathered
  pub file : part.file.header ≡ None
  pub session : part.file.session ≡ None
  pub prepared : part.prepared ≡ []

pub data WhyNoTc (f : Frame) (code : ℕ) : Type 0 where
  TooMany : code ≡ BAD_FRAME → 65535 < f.word → WhyNoTc f code
  NoMemory : code ≡ MEMORY → f.word ≤ 65535 → WhyNoTc f code

-- an empty data component
pub record BeginsDc (f : Frame) (body : Body) : Type 0 where
  pub store : Store
  pub is : body ≡ Dc store
  pub records : f.word ≤ 65536
  pub operations : f.place ≤ 1048576
  pub empty : store ≡ empty f.word f.place

pub data WhyNoDc (f : Frame) (code : ℕ) : Type 0 where
  TooManyRecords : code ≡ BAD_FRAME → 65536 < f.word → WhyNoDc f code
  TooManyOperations : code ≡ BAD_FRAME → 1048576 < f.place → WhyNoDc f code
  NoMemory : code ≡ MEMORY → f.word ≤ 65536 → f.place ≤ 1048576 → WhyNoDc f code

-- no program is accepted yet
pub record BeginsCode (body : Body) : Type 0 where
  pub part : CodePart
  pub is : body ≡ Code part
  pub program : part.program ≡ None
  pub gathered : HasNothing part.gathered

abbrev pub BegunBy : ℕ → Frame → Body → Type 0
BegunBy what f body =
    MatchBool (what == START_TC) (BeginsTc f body)
    (MatchBool (what == START_DC) (BeginsDc f body)
    (MatchBool (what == START_CODE) (BeginsCode body)
    ⊥))

-- a program always begins
abbrev pub UnbegunBy : ℕ → Frame → ℕ → Type 0
UnbegunBy what f code =
    MatchBool (what == START_TC) (WhyNoTc f code)
    (MatchBool (what == START_DC) (WhyNoDc f code)
    (MatchBool (what == START_CODE) ⊥
    (code ≡ NO_SUCH_CALL)))

-- of an engine that isn't started
pub record Begins (f : Frame) (code : ℕ) (body : Body) : Type 0 where
  pub refused : code ≢ 0 → body ≡ Empty
  pub why : code ≢ 0 → UnbegunBy f.what f code
  pub done : code ≡ 0 → BegunBy f.what f body

-- ---- going on

-- a transaction component stays one, and it and its log's file are served
pub record Serves (part : FiledPart) (f : Frame) (code : ℕ) (body : Body) (f' : Frame) : Type 0 where
  pub part' : FiledPart
  pub is : body ≡ Tc part'
  pub served : IsFiled part f code part' f'

-- a data component stays one, and does what it is told
pub record Keeps (store : Store) (f : Frame) (code : ℕ) (body : Body) (f' : Frame) : Type 0 where
  pub store' : Store
  pub is : body ≡ Dc store'
  pub kept : IsKept store f code store' f'

-- a program stays one, and is run
pub record Runs (part : CodePart) (f : Frame) (code : ℕ) (body : Body) (f' : Frame) : Type 0 where
  pub part' : CodePart
  pub is : body ≡ Code part'
  pub run : IsRun part f code part' f'

pub record IsCalled (before : Engine) (code : ℕ) (after : Engine) : Type 0 where
  pub sound : IsSound after
  pub begun : before.body ≡ Empty → Begins before.frame code after.body
  pub served : (part : FiledPart) → before.body ≡ Tc part → Serves part before.frame code after.body after.frame
  pub kept : (store : Store) → before.body ≡ Dc store → Keeps store before.frame code after.body after.frame
  pub run : (part : CodePart) → before.body ≡ Code part → Runs part before.frame code after.body after.frame
