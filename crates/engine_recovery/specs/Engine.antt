-- An engine whose log is a file that it writes ahead, and which is killed now and then, also while it appends (Lomet, Fekete, Weikum, Zwilling,
-- CIDR 2009: the transaction component's log is forced ahead of what data components are sent).
use Rattle.std.specs.Prelude.{◌≡◌, ℕ, Bool, true, false, List, [], ◌∷◌}
use Rattle.access_slots.specs.declared.op.Wire.{Wire}
use Rattle.access_slots.specs.declared.op.Reply.{Reply}
use Rattle.access_slots.specs.declared.op.News.{News}
use Rattle.history.specs.Flight.{low_water}
use Rattle.history.specs.Places.{Begins}
use Rattle.frame_file.specs.Reading.{Reads, IsTold, IsBeforeOrAfter}
use Rattle.log_file.specs.declared.header.Header.{Header}
use Rattle.log_file.specs.Bytes.{Batch, batch_bytes}
use Rattle.tc_world.specs.Whole.{Whole}
use Rattle.tc_world.specs.Recovery.{AreNoted, come_back}
use Rattle.tc_world.specs.Lives.{Lives, Takes, Loses, HasLived}
use Rattle.tc_world.specs.Ahead.{Written, Tells, IsAhead}
use Rattle.tc_world.specs.declared.step.Step.{Step}
use Rattle.tc_world.specs.declared.step.Step.TheVariants as step
use Rattle.engine_recovery.specs.Telling.{Contents, payloads_in, appended, FileTells, IsRead}

-- its log's file, what that tells was written, and the world: the transaction component, data components, and all that is carried
pub record Engine : Type 0 where
  pub file : Contents
  pub written : Written
  pub world : Whole

-- it may be killed: its file tells what was written, and that tells of all that was carried, in a world that has lived
pub record MayBeKilled (h : Header) (e : Engine) : Type 0 where
  pub file : FileTells h e.file e.written
  pub tells : Tells e.written e.world
  pub lived : HasLived e.world

-- ---- what it does

-- how its file is written on: batches are appended, or another file takes its place whole, as where the log begins anew
pub data Writing : Type 0 where
  Appends : List Batch → Writing
  Replaces : Contents → Writing

abbrev pub written_on : Writing → Contents → Contents
written_on (Appends more) f = appended f more
written_on (Replaces g) f = g

-- the step changes nothing but the transaction component's memory, and what it sends; its log goes on
abbrev pub is_in_memory : Step → Bool
is_in_memory (step.Admit call) = true
is_in_memory (step.Ask t) = true
is_in_memory (step.Undo t) = true
is_in_memory (step.End t) = true
is_in_memory (step.Resend t) = true
is_in_memory (step.Perform i) = false
is_in_memory (step.Take i) = true
is_in_memory (step.Restart d) = false
is_in_memory (step.Forge x) = false
is_in_memory (step.Checkpoint d) = false
is_in_memory (step.Tell i) = true
is_in_memory (step.Redo d) = true
is_in_memory (step.Crash events) = false
is_in_memory step.Cut = false

-- it takes such steps, one after another, and carries nothing that they send
abbrev pub TakesInMemory : List Step → Whole → Whole → Type 0
TakesInMemory [] w v = v ≡ w
TakesInMemory (x ∷ xs) w v =
    (is_in_memory x ≡ true) × (mid : Whole) × Lives (Takes x ∷ Loses w.copies w.replies w.news ∷ []) w mid × TakesInMemory xs mid v

-- behind the step its file is written on and synced, ahead of what is carried from then on
pub record GoesAhead (h : Header) (x : Step) (y : Writing) (e e' : Engine) : Type 0 where
  pub file : e'.file ≡ written_on y e.file
  pub tells : FileTells h e'.file e'.written
  pub ahead : IsAhead x e.written e'.written e'.world

-- with this batch its file tells more, up to somewhere in its log, and what it knows of data components
pub record IsBeingWritten (h : Header) (b : Batch) (e : Engine) (next : Written) (w : Whole) : Type 0 where
  pub tells : FileTells h (appended e.file (b ∷ [])) next
  pub more : Begins e.written.events next.events
  pub log : Begins next.events w.core.events
  pub notes : AreNoted (low_water next.events) w next.notes

-- a crash while the batch was being appended left these bytes, with no checksum that is right by chance
pub record IsCutShort (h : Header) (f : Contents) (b : Batch) (bytes : List ℕ) : Type 0 where
  pub left : IsBeforeOrAfter (payloads_in h f) (batch_bytes b) bytes
  pub told : IsTold (payloads_in h f) (batch_bytes b) bytes

-- it comes back, in this world, from what is read of these bytes
pub record ComesBack (h : Header) (bytes : List ℕ) (w : Whole) (e : Engine) : Type 0 where
  pub read : IsRead h bytes e.file e.written
  pub world : e.world ≡ come_back e.written.events e.written.notes w

-- what happens to it: it takes a step, writes its file on, and of all messages these are carried from then on, since the others are lost, or
-- not carried yet; or it takes steps in memory, and is killed with nothing written of them, which leaves these bytes; or it appends this
-- batch behind them, takes further steps meanwhile, and is killed before it has carried anything, which leaves these bytes
pub data Turn : Type 0 where
  Goes : Step → Writing → List Wire → List Reply → List (ℕ × News) → Turn
  Killed : List Step → List ℕ → Turn
  KilledWriting : List Step → Batch → List Step → List ℕ → Turn

-- one turn after another: it writes ahead, and comes back from what is left of its file
abbrev pub Turns : Header → List Turn → Engine → Engine → Type 0
Turns h [] e e' = e' ≡ e
Turns h (Goes x y xs rs ns ∷ turns) e e' =
    (mid : Engine) × Lives (Takes x ∷ Loses xs rs ns ∷ []) e.world mid.world × GoesAhead h x y e mid × Turns h turns mid e'
Turns h (Killed steps bytes ∷ turns) e e' =
    (w : Whole) × (mid : Engine) × TakesInMemory steps e.world w × Reads bytes (payloads_in h e.file)
    × ComesBack h bytes w mid × Turns h turns mid e'
Turns h (KilledWriting steps b later bytes ∷ turns) e e' =
    (w : Whole) × (v : Whole) × (next : Written) × (mid : Engine) × TakesInMemory steps e.world w × IsBeingWritten h b e next w
    × TakesInMemory later w v × IsCutShort h e.file b bytes × ComesBack h bytes v mid × Turns h turns mid e'
