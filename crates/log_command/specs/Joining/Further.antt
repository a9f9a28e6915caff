-- What stands in a log's file behind the frames that were read of it.
use Rattle.std.specs.Prelude.{◌≡◌, ℕ, ◌+◌, List, ◌∷◌, ◌++◌, length}
use Rattle.frame_file.specs.Frame.{frames_from, ArePayloads, NoFrame}
use Rattle.log_file.specs.declared.header.Header.{Header}
use Rattle.log_file.specs.Bytes.{header_bytes}
use Rattle.log_command.specs.declared.further.Further.{Further}

-- the frames from this number on with which the bytes begin, as those behind a header's, and no more frames
pub record AreFurther (h : Header) (number : ℕ) (bytes : List ℕ) (f : Further) : Type 0 where
  pub payloads : List (List ℕ)
  pub rest : List ℕ
  pub is : bytes ≡ frames_from number payloads ++ rest
  pub fit : ArePayloads (header_bytes h ∷ payloads)
  pub ends : NoFrame (number + length payloads) rest
  pub file : f.file.items ≡ frames_from 0 (header_bytes h ∷ payloads)
  pub next : f.next ≡ number + length payloads
  pub unfinished : f.unfinished ≡ length rest
