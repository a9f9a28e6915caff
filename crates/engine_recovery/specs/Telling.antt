-- What a log's file tells of what was written (Lomet, Fekete, Weikum, Zwilling, CIDR 2009: the transaction component's log is forced ahead of
-- what data components are sent).
use Rattle.std.specs.Prelude.{◌≡◌, ℕ, List, ◌++◌, Option, reverse}
use Rattle.tc_log.specs.Reading.{ArePrinted, AreEvents}
use Rattle.frame_file.specs.Frame.{frames_from}
use Rattle.frame_file.specs.Reading.{Reads}
use Rattle.log_file.specs.declared.header.Header.{Header}
use Rattle.log_file.specs.Bytes.{Rows, Batch, payloads_of, notes_of, rows_of}
use Rattle.log_file.specs.Reading.{IsStart, IsBehind, AreBatches, Says, last_known}
use Rattle.tc_world.specs.Ahead.{Written}

-- what a log's file has behind its header: a base, where the log begins behind an earlier one, and batches
pub record Contents : Type 0 where
  pub base : Option Rows
  pub batches : List Batch

-- the payloads of its frames
abbrev pub payloads_in : Header → Contents → List (List ℕ)
payloads_in h f = payloads_of h f.base f.batches

-- these batches are appended
abbrev pub appended : Contents → List Batch → Contents
appended f more = record f { batches = f.batches ++ more }

-- the file tells that this was written: its batches have the rows of just these events, the oldest first, and their last notes of each data
-- component are these (events of numbers that machines have)
pub record FileTells (h : Header) (f : Contents) (p : Written) : Type 0 where
  pub starts : IsStart f.base
  pub behind : IsBehind f.base (reverse p.events)
  pub are : AreBatches h.dcs f.batches
  pub numbers : AreEvents (reverse p.events)
  pub rows : ArePrinted (reverse p.events) (rows_of f.batches)
  pub notes : last_known h.dcs (notes_of f.batches) ≡ p.notes

-- these bytes are read as this file, which says that this was written
pub record IsRead (h : Header) (bytes : List ℕ) (f : Contents) (p : Written) : Type 0 where
  pub reads : Reads bytes (payloads_in h f)
  pub says : Says h (payloads_in h f) f.base p.notes (reverse p.events)
  pub batches : says.batches ≡ f.batches

-- the bytes are a file's frames, one behind another, and it tells that this was written
pub record IsFileOf (h : Header) (bytes : List ℕ) (p : Written) : Type 0 where
  pub file : Contents
  pub is : bytes ≡ frames_from 0 (payloads_in h file)
  pub tells : FileTells h file p

-- some file is read of the bytes, which says that this was written
pub record IsReadAs (h : Header) (bytes : List ℕ) (p : Written) : Type 0 where
  pub file : Contents
  pub read : IsRead h bytes file p
