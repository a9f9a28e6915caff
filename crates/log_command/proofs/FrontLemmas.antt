-- A log's file begins with a header's frame.
use Rattle.std.proofs.Common.{◌≡◌, ◌∙◌, ◌⊎◌, inl, inr, ℕ, ◌+◌, ◌≤◌, List, ◌∷◌, ◌++◌, length, map, take, drop, refl, ap, sym, subst, arith, append_assoc, take-append-drop, ⊎_elim}
use Rattle.std.specs.Prelude.{Option, Some, None}
use Rattle.std.specs.Int.{w64, to_le_bytes, from_le_bytes}
use Rattle.std.proofs.lemmas.List.{take_at, take-take}
use Rattle.std.proofs.lemmas.Nat.{from_le_bytes-to_le_bytes_8}
use Rattle.frame_file.specs.Frame.{framed, frames_from, head_bytes, IsPayload, ArePayloads}
use Rattle.frame_file.proofs.Frames.{begun}
use Rattle.log_file.specs.Bytes.{Rows, Batch, header_bytes, based_header_bytes, session_bytes, front_of, payloads_of, part_bytes, parts_of, batch_bytes}
use Rattle.log_file.specs.Found.{base_in}
use Rattle.log_file.specs.Stored.{IsStored}
use Rattle.log_file.specs.declared.header.Header.{Header}
use Rattle.log_file.specs.declared.stored.Stored.{Stored}
use Rattle.log_file.proofs.BaseLemmas.{length_plain, length_based}
use Rattle.log_command.specs.Front.{IsHeaderSize}

-- ---- the first payload

session_size : (session : Option ℕ) → (length (session_bytes session) ≡ 0) ⊎ (length (session_bytes session) ≡ 8)
session_size None = inl refl
session_size (Some session) = inr refl

plain_size : (h : Header) → length h.digest ≡ 32 → IsHeaderSize (length (header_bytes h))
plain_size h digest = ⊎_elim
    (λ none. inl (omega (arith, length_plain h, digest, none)))
    (λ some. inr (inl (omega (arith, length_plain h, digest, some))))
    (session_size h.session)

based_size : (h : Header) (rows : ℕ) → length h.digest ≡ 32 → IsHeaderSize (length (based_header_bytes h rows))
based_size h rows digest = ⊎_elim
    (λ none. inr (inl (omega (arith, length_based h rows, digest, none))))
    (λ some. inr (inr (omega (arith, length_based h rows, digest, some))))
    (session_size h.session)

pub record First (payloads : List (List ℕ)) : Type 0 where
  pub payload : List ℕ
  pub more : List (List ℕ)
  pub is : payloads ≡ payload ∷ more
  pub size : IsHeaderSize (length payload)

first : (h : Header) (base : Option Rows) (batches : List Batch) (payloads : List (List ℕ)) → length h.digest ≡ 32
    → payloads ≡ payloads_of h base batches → First payloads
first h None batches payloads digest is =
    record { payload = header_bytes h; more = map batch_bytes batches; is = is; size = plain_size h digest }
first h (Some base) batches payloads digest is = record {
  payload = based_header_bytes h (length base);
  more = map part_bytes (parts_of base) ++ map batch_bytes batches;
  is = is;
  size = based_size h (length base) digest;
}

-- ---- its head

front_part : (n : ℕ) (p : List ℕ) → take 16 (head_bytes n p) ≡ to_le_bytes w64 n ++ to_le_bytes w64 (length p)
unfolding head_bytes
front_part n p = refl

head_is : (head more file p after : List ℕ) → length head ≡ 16 → IsPayload p → file ≡ head ++ more → file ≡ framed 0 p ++ after
    → head ≡ to_le_bytes w64 0 ++ to_le_bytes w64 (length p)
head_is head more file p after long fits cut is =
    let fewer : 16 ≤ 24 = omega arith in
    sym (take_at head more 16 long)
    ∙ ap (λ (b : List ℕ). take 16 b) (sym cut)
    ∙ sym (take-take 16 24 file fewer)
    ∙ ap (λ (b : List ℕ). take 16 b) (begun 0 p after file fits is).head
    ∙ front_part 0 p

pub number_is : (head p : List ℕ) → head ≡ to_le_bytes w64 0 ++ to_le_bytes w64 (length p) → from_le_bytes w64 (take 8 head) ≡ 0
number_is head p is = ap (λ (b : List ℕ). from_le_bytes w64 (take 8 b)) is

pub size_is : (head p : List ℕ) → IsPayload p → head ≡ to_le_bytes w64 0 ++ to_le_bytes w64 (length p) → from_le_bytes w64 (drop 8 head) ≡ length p
size_is head p fits is = ap (λ (b : List ℕ). from_le_bytes w64 (drop 8 b)) is ∙ from_le_bytes-to_le_bytes_8 (length p) fits

-- a file whose first 16 bytes aren't so is no log's
pub record Head (head : List ℕ) : Type 0 where
  pub number : from_le_bytes w64 (take 8 head) ≡ 0
  pub size : IsHeaderSize (from_le_bytes w64 (drop 8 head))

head_of : (head more : List ℕ) (file : List ℕ) (payloads : List (List ℕ)) (rest : List ℕ) → length head ≡ 16 → file ≡ head ++ more
    → file ≡ frames_from 0 payloads ++ rest → ArePayloads payloads → First payloads → Head head
head_of head more file payloads rest long cut is fit f =
    let whole : file ≡ framed 0 f.payload ++ (frames_from 1 f.more ++ rest) =
    is ∙ ap (λ (ps : List (List ℕ)). frames_from 0 ps ++ rest) f.is ∙ append_assoc (framed 0 f.payload) (frames_from 1 f.more) rest in
    let fits : IsPayload f.payload = (subst ArePayloads f.is fit).0 in
    let same = head_is head more file f.payload (frames_from 1 f.more ++ rest) long fits cut whole in
    record { number = number_is head f.payload same; size = subst IsHeaderSize (sym (size_is head f.payload fits same)) f.size }

pub of_log : (front rest : List ℕ) (s : Stored) → length (take 16 front) ≡ 16 → length s.header.digest ≡ 32
    → IsStored (front ++ rest) s → Head (take 16 front)
of_log front rest s long digest stored =
    head_of (take 16 front) (drop 16 front ++ rest) (front ++ rest) stored.payloads stored.reads.rest long
    (ap (λ (b : List ℕ). b ++ rest) (sym (take-append-drop 16 front)) ∙ append_assoc (take 16 front) (drop 16 front) rest)
    stored.reads.is stored.reads.fit (first s.header (base_in s.base) stored.says.batches stored.payloads digest stored.says.is)
