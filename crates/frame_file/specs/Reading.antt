-- What a file of frames is read as, and what a crash leaves of it.
use Rattle.std.specs.Prelude.{◌≡◌, ◌⊎◌, ℕ, ◌+◌, List, [], ◌∷◌, ◌++◌, length, drop, map, Vec}
use Rattle.std.specs.declared.alloc.Global.{Global}
use Rattle.frame_file.specs.Device.{Only, Torn}
use Rattle.frame_file.specs.Frame.{frames_from, framed, IsPayload, ArePayloads, NoFrame, MayStand, IsHead, MayBeTorn, IsEnd}
use Rattle.frame_file.specs.declared.device.DeviceError.TheVariants.{Memory}
use Rattle.frame_file.specs.declared.file.FrameFile.{FrameFile}
use Rattle.frame_file.specs.declared.reading.Claim.{Claim}
use Rattle.frame_file.specs.declared.reading.Found.{Found}
use Rattle.frame_file.specs.declared.reading.FrameFault.{FrameFault}
use Rattle.frame_file.specs.declared.reading.FrameFault.TheVariants.{Device, Full, Damaged}

-- these payloads, one behind another, as far as frames go; no other payloads are so
pub record Reads (file : List ℕ) (payloads : List (List ℕ)) : Type 0 where
  pub rest : List ℕ
  pub is : file ≡ frames_from 0 payloads ++ rest
  pub fit : ArePayloads payloads
  pub ends : NoFrame (length payloads) rest

-- the head of a frame at the front of the bytes, which may be where the one of this number would begin
abbrev pub IsClaim : ℕ → List ℕ → Claim → Type 0
IsClaim n bytes claim = IsHead claim.number claim.size claim.said bytes × MayStand n claim.number (drop (24 + claim.size) bytes)

-- the frame of this number isn't whole, and what stands there is no end that a crash leaves
pub record IsDamaged (file : List ℕ) (number : ℕ) : Type 0 where
  pub payloads : List (List ℕ)
  pub reads : Reads file payloads
  pub number_is : number ≡ length payloads
  pub no_end : IsEnd number reads.rest → ⊥

abbrev pub IsReadFault : List ℕ → FrameFault → Type 0
IsReadFault file (Device e) = e ≡ Memory
IsReadFault file Full = ⊥
IsReadFault file (Damaged number) = IsDamaged file number

abbrev pub payloads_in : List (Vec ℕ Global) → List (List ℕ)
payloads_in vecs = map (λ (v : Vec ℕ Global). v.items) vecs

-- these frames, up to this place of the file, and behind them an end
pub record IsFound (file : List ℕ) (found : Found) : Type 0 where
  pub reads : Reads file (payloads_in found.payloads.items)
  pub end : found.end ≡ length (frames_from 0 (payloads_in found.payloads.items))
  pub ends : IsEnd (length found.payloads.items) reads.rest

-- the file is these frames, all of them on the disk
pub record IsSettled {D : Type 0} (seen : D → List ℕ) (may_leave : D → List ℕ → Type 0)
    (file : FrameFile D) (payloads : List (List ℕ)) : Type 0 where
  pub bytes : seen file.device ≡ frames_from 0 payloads
  pub count : file.count ≡ length payloads
  pub fit : ArePayloads payloads
  pub durable : Only (seen file.device) (may_leave file.device)

-- these, and perhaps others behind them
pub record Begin (payloads all : List (List ℕ)) : Type 0 where
  pub more : List (List ℕ)
  pub is : all ≡ payloads ++ more

-- behind these frames the checksum is right of no frame but the one that was being written
abbrev pub IsTold : List (List ℕ) → List ℕ → List ℕ → Type 0
IsTold payloads payload file =
    (other after : List ℕ) → IsPayload other → file ≡ frames_from 0 payloads ++ (framed (length payloads) other ++ after) → other ≡ payload

-- what a crash left while the payload was being written behind the others: their frames, and a part of the new one's bytes; all others are
-- read, whatever it left; and but for a checksum that is right by chance, no more than that payload behind them; and then an end that may be
-- torn
pub record IsBeforeOrAfter (payloads : List (List ℕ)) (payload file : List ℕ) : Type 0 where
  pub bytes : Torn (framed (length payloads) payload) (frames_from 0 payloads) file
  pub kept : (all : List (List ℕ)) → Reads file all → Begin payloads all
  pub told : (all : List (List ℕ)) → Reads file all → IsTold payloads payload file → (all ≡ payloads) ⊎ (all ≡ payloads ++ payload ∷ [])
  pub torn : (all : List (List ℕ)) (reads : Reads file all) → IsTold payloads payload file → MayBeTorn (length all) reads.rest

-- it is read as the other is, and where that has an end, so has it
abbrev pub ReadsAs : List ℕ → List ℕ → Type 0
ReadsAs old new = (payloads : List (List ℕ)) (reads : Reads old payloads)
    → (again : Reads new payloads) × (IsEnd (length payloads) reads.rest → IsEnd (length payloads) again.rest)
