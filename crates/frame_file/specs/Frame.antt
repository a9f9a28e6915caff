-- Frames as bytes.
use Rattle.std.specs.Prelude.{◌≡◌, ◌⊎◌, ℕ, ◌+◌, ◌*◌, ◌%◌, ◌<◌, ◌≤◌, ◌^◌, List, [], ◌∷◌, ◌++◌, length, take, drop, bit_xor}
use Rattle.std.specs.Int.{w64, to_le_bytes, from_le_bytes}
use Rattle.frame_file.specs.Device.{word_at, IsLeft}

-- FNV-1a of 64 bits (Fowler, Noll, Vo): one byte more
abbrev pub hash_step : ℕ → ℕ → ℕ
hash_step hash byte = (bit_xor hash byte * 1099511628211) % 2 ^ 64

unfoldable pub hashed : ℕ → List ℕ → ℕ
hashed hash [] = hash
hashed hash (byte ∷ bytes) = hashed (hash_step hash byte) bytes

-- of the number and the length
abbrev pub measured : ℕ → ℕ → ℕ
measured n size = hashed (hashed 14695981039346656037 (to_le_bytes w64 n)) (to_le_bytes w64 size)

-- and of the payload
abbrev pub checksum : ℕ → List ℕ → ℕ
checksum n payload = hashed (measured n (length payload)) payload

-- 24 bytes: the number at 0, the length at 8, the checksum at 16
unfoldable pub head_bytes : ℕ → List ℕ → List ℕ
head_bytes n payload = (to_le_bytes w64 n ++ to_le_bytes w64 (length payload)) ++ to_le_bytes w64 (checksum n payload)

abbrev pub framed : ℕ → List ℕ → List ℕ
framed n payload = head_bytes n payload ++ payload

-- one behind another, numbered from this number on
abbrev pub frames_from : ℕ → List (List ℕ) → List ℕ
frames_from n [] = []
frames_from n (payload ∷ payloads) = framed n payload ++ frames_from (n + 1) payloads

-- as long as a machine counts
abbrev pub IsPayload : List ℕ → Type 0
IsPayload payload = length payload < 2 ^ 64

abbrev pub ArePayloads : List (List ℕ) → Type 0
ArePayloads [] = Unit {0}
ArePayloads (payload ∷ payloads) = IsPayload payload × ArePayloads payloads

-- no frame of this number stands at the front of the bytes
abbrev pub NoFrame : ℕ → List ℕ → Type 0
NoFrame n bytes = (payload after : List ℕ) → IsPayload payload → bytes ≡ framed n payload ++ after → ⊥

-- nor of any
abbrev pub NoneBegins : List ℕ → Type 0
NoneBegins bytes = (number : ℕ) → number < 2 ^ 64 → NoFrame number bytes

-- the number behind this one stands at the front of the bytes
pub record IsFollowed (n : ℕ) (after : List ℕ) : Type 0 where
  pub long : 8 ≤ length after
  pub next : from_le_bytes w64 (take 8 after) ≡ n + 1

-- the second frame, behind which these bytes stand, may be in the file where the first one would begin: it is that one or one of the next 16,
-- or the number of the next one follows it
abbrev pub MayStand : ℕ → ℕ → List ℕ → Type 0
MayStand n number after = (n ≤ number) × ((number ≤ n + 16) ⊎ IsFollowed number after)

-- nor one that may stand there
abbrev pub NoneStands : ℕ → List ℕ → Type 0
NoneStands n bytes = (number : ℕ) → number < 2 ^ 64 → (payload after : List ℕ) → IsPayload payload → MayStand n number after
    → bytes ≡ framed number payload ++ after → ⊥

-- somewhere in the bytes stands a whole frame that may stand there, or at their front any
pub record HasFrame (n : ℕ) (bytes : List ℕ) : Type 0 where
  pub number : ℕ
  pub small : number < 2 ^ 64
  pub payload : List ℕ
  pub fits : IsPayload payload
  pub before : List ℕ
  pub after : List ℕ
  pub is : bytes ≡ before ++ (framed number payload ++ after)
  pub stands : (before ≡ []) ⊎ MayStand n number after

-- the head at the front of the bytes says this number, this length of the payload, which is there, and this checksum
pub record IsHead (number size said : ℕ) (bytes : List ℕ) : Type 0 where
  pub fits : 24 + size ≤ length bytes
  pub small : number < 2 ^ 64
  pub short : size < 2 ^ 64
  pub number_is : number ≡ from_le_bytes w64 (take 8 bytes)
  pub size_is : size ≡ from_le_bytes w64 (take 8 (drop 8 bytes))
  pub said_is : said ≡ from_le_bytes w64 (take 8 (drop 16 bytes))

-- a crash can have left these bytes of the frame of this number: the first word is the number or a hole, and the length, where it is
-- there, is a hole or that of a frame which is no shorter than they are
pub record MayBeTorn (n : ℕ) (tail : List ℕ) : Type 0 where
  pub numbered : IsLeft (to_le_bytes w64 n) (word_at 0 tail)
  pub measured : 16 ≤ length tail → (from_le_bytes w64 (word_at 1 tail) ≡ 0) ⊎ (length tail ≤ 24 + from_le_bytes w64 (word_at 1 tail))

-- where this frame would begin, no whole frame stands that may stand there, and behind others only what a crash can leave. What the first
-- frame was to be is known to whoever opens the file
pub record IsEnd (n : ℕ) (rest : List ℕ) : Type 0 where
  pub none : HasFrame n rest → ⊥
  pub torn : 0 < n → MayBeTorn n rest
