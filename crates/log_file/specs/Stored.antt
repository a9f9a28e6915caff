-- What the bytes of a log's file say, whoever wrote it.
use Rattle.std.specs.Prelude.{◌≡◌, ◌⊎◌, ℕ, ◌+◌, ◌<◌, ◌^◌, List, [], ◌∷◌, ◌++◌, length, take, reverse}
use Rattle.std.specs.Int.{w64, to_le_bytes}
use Rattle.frame_file.specs.Frame.{frames_from, IsEnd}
use Rattle.frame_file.specs.Reading.{Reads, IsReadFault}
use Rattle.log_file.specs.declared.header.Header.{Header}
use Rattle.log_file.specs.declared.reading.OpenFault.{OpenFault}
use Rattle.log_file.specs.declared.reading.OpenFault.TheVariants.{Frames, Empty, Other, NoBase, NoBatch, Row}
use Rattle.log_file.specs.declared.stored.Stored.{Stored}
use Rattle.log_file.specs.Reading.{IsHeader, IsHead, IsUnsaid, Says}
use Rattle.log_file.specs.Found.{base_in}

-- its payloads are this header's log, so many frames, and so many bytes stand behind the last one, an end that a crash leaves
pub record IsStored (file : List ℕ) (s : Stored) : Type 0 where
  pub payloads : List (List ℕ)
  pub reads : Reads file payloads
  pub says : Says s.header payloads (base_in s.base) s.notes.items (reverse s.log.events)
  pub frames : s.frames ≡ length payloads
  pub unfinished : length file ≡ length (frames_from 0 payloads) + s.unfinished
  pub ends : IsEnd (length payloads) reads.rest

-- ---- why it isn't read

-- no header of these layouts is written so
abbrev pub IsNoHeader : List ℕ → Type 0
IsNoHeader bytes = (h : Header) → IsHeader h → h.dcs < 2 ^ 16 → length h.digest ≡ 32 → IsHead h bytes → ⊥

-- as far as there, it begins as the frame of a header of so many bytes does: the number 0, and that length
abbrev pub HasFront : ℕ → List ℕ → Type 0
HasFront size file =
    (length file < 24 + size) × (take 16 file ≡ take (length (take 16 file)) (to_le_bytes w64 0 ++ to_le_bytes w64 size))

-- of one without a session, or with one
pub record MayBegin (file : List ℕ) : Type 0 where
  pub reads : Reads file []
  pub front : HasFront 64 file ⊎ HasFront 72 file

-- there is a first payload, which is no header's
pub record IsNobodys (file : List ℕ) : Type 0 where
  pub first : List ℕ
  pub rest : List (List ℕ)
  pub reads : Reads file (first ∷ rest)
  pub none : IsNoHeader first

-- the file begins with a header, for which it isn't read
pub record IsAnybodys (file : List ℕ) (fault : OpenFault) : Type 0 where
  pub header : Header
  pub unsaid : IsUnsaid header file fault

abbrev pub IsFileFault : List ℕ → OpenFault → Type 0
IsFileFault file (Frames fault) = IsReadFault file fault
IsFileFault file Empty = MayBegin file
IsFileFault file Other = IsNobodys file ⊎ (Reads file [] × (MayBegin file → ⊥))
IsFileFault file (NoBase number) = IsAnybodys file (NoBase number)
IsFileFault file (NoBatch number) = IsAnybodys file (NoBatch number)
IsFileFault file (Row place) = IsAnybodys file (Row place)
