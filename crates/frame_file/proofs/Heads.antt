-- A head whose sum is right is that of a frame, and no other is.
use Rattle.std.proofs.Common.{◌≡◌, ℕ, ◌+◌, ◌-◌, ◌<◌, ◌≤◌, ◌^◌, List, ◌++◌, length, take, drop, sym, ◌∙◌, ap, ap₂, subst, arith, length-drop, take-append-drop}
use Rattle.std.specs.Int.{w64, to_le_bytes, from_le_bytes}
use Rattle.std.proofs.lemmas.List.{take_at, drop_at, take-take, drop-take, drop-drop, length-take-le}
use Rattle.std.proofs.lemmas.Nat.{from_le_bytes-to_le_bytes_8, le_bytes_8}
use Rattle.frame_file.specs.Frame.{hashed, measured, checksum, framed, IsPayload, NoneStands, MayStand, IsHead}
use Rattle.frame_file.specs.Sums.{AreBytes, part}
use Rattle.frame_file.proofs.Blocks.{hashed_small, bytes_take, bytes_drop}
use Rattle.frame_file.proofs.Frames.{begun, own_number, third_part, head_parts, frame_is}

first_eight : (here : List ℕ) → take 8 (take 24 here) ≡ take 8 here
first_eight here = take-take 8 24 here (omega arith)

second_eight : (here : List ℕ) → take 8 (drop 8 (take 24 here)) ≡ take 8 (drop 8 here)
second_eight here = ap (λ (l : List ℕ). take 8 l) (drop-take 8 16 here) ∙ take-take 8 16 (drop 8 here) (omega arith)

third_eight : (here : List ℕ) → drop 16 (take 24 here) ≡ take 8 (drop 16 here)
third_eight here = drop-take 16 8 here

checksum_small : (m : ℕ) (p : List ℕ) → checksum m p < 2 ^ 64
checksum_small m p =
    hashed_small p (measured m (length p))
    (hashed_small (to_le_bytes w64 (length p)) (hashed 14695981039346656037 (to_le_bytes w64 m))
    (hashed_small (to_le_bytes w64 m) 14695981039346656037 (omega arith)))

pub none_lower : (n own : ℕ) (here : List ℕ) → own ≡ from_le_bytes w64 (take 8 here) → own < n → NoneStands n here
none_lower n own here own_is low m small p after fits may is =
    let same : own ≡ m = own_is ∙ own_number m p after here small fits is in
    omega (arith, low, may.0, same)

pub none_longer : (n size : ℕ) (here : List ℕ) → size ≡ from_le_bytes w64 (take 8 (drop 8 here)) → length here - 24 < size → NoneStands n here
none_longer n size here size_is over m small p after fits may is =
    let b = begun m p after here fits is in
    let whole = b.size in
    let long : size ≡ length p = size_is ∙ (ap (λ (l : List ℕ). from_le_bytes w64 l) (sym (second_eight here)) ∙ b.long) in
    omega (arith, over, whole, long)

module _ (own size said : ℕ) (here : List ℕ) (says : IsHead own size said here) where
  eight : (k : ℕ) → k ≤ 16 → length (take 8 (drop k here)) ≡ 8
  eight k le = length-take-le 8 (drop k here) (omega (arith, le, says.fits, length-drop k here))

  pub is_frame : AreBytes here → said ≡ hashed (measured own size) (take size (drop 24 here))
      → here ≡ framed own (take size (drop 24 here)) ++ drop size (drop 24 here)
  is_frame are right =
      let payload = take size (drop 24 here) in
      let length_is : length payload ≡ size
      = length-take-le size (drop 24 here) (omega (arith, says.fits, length-drop 24 here)) in
      let first : take 8 (take 24 here) ≡ to_le_bytes w64 own
      = first_eight here ∙ sym (le_bytes_8 (take 8 here) own (eight 0 (omega arith)) (bytes_take 8 here are) says.number_is) in
      let second : take 8 (drop 8 (take 24 here)) ≡ to_le_bytes w64 (length payload)
      = second_eight here
      ∙ (sym (le_bytes_8 (take 8 (drop 8 here)) size (eight 8 (omega arith)) (bytes_take 8 (drop 8 here) (bytes_drop 8 here are)) says.size_is)
      ∙ ap (to_le_bytes w64) (sym length_is)) in
      let sum : said ≡ checksum own payload = right ∙ ap (λ (k : ℕ). hashed (measured own k) payload) (sym length_is) in
      let third : drop 16 (take 24 here) ≡ to_le_bytes w64 (checksum own payload)
      = third_eight here
      ∙ (sym (le_bytes_8 (take 8 (drop 16 here)) said (eight 16 (omega arith)) (bytes_take 8 (drop 16 here) (bytes_drop 16 here are)) says.said_is)
      ∙ ap (to_le_bytes w64) sum) in
      frame_is own here (take 24 here) (drop 24 here) payload (drop size (drop 24 here)) (sym (take-append-drop 24 here))
      (sym (take-append-drop size (drop 24 here))) (head_parts own payload (take 24 here) first second third)

  long_is : (m : ℕ) (p after : List ℕ) → IsPayload p → here ≡ framed m p ++ after → size ≡ length p
  long_is m p after fits is =
      says.size_is ∙ (ap (λ (l : List ℕ). from_le_bytes w64 l) (sym (second_eight here)) ∙ (begun m p after here fits is).long)

  pub none_apart : (n : ℕ) → (MayStand n own (drop (24 + size) here) → ⊥) → NoneStands n here
  none_apart n apart m small p after fits may is =
      let b = begun m p after here fits is in
      let number : m ≡ own = sym (own_number m p after here small fits is) ∙ sym says.number_is in
      let left : after ≡ drop (24 + size) here
      = sym (drop_at p after size (sym (long_is m p after fits is))) ∙ (ap (λ (l : List ℕ). drop size l) (sym b.rest) ∙ drop-drop size 24 here) in
      apart (subst (λ (k : ℕ). MayStand n k (drop (24 + size) here)) number (subst (MayStand n m) left may))

  pub none_summed : (n : ℕ) → (said ≡ hashed (measured own size) (take size (drop 24 here)) → ⊥) → NoneStands n here
  none_summed n wrong m small p after fits may is =
      let b = begun m p after here fits is in
      let number : own ≡ m = says.number_is ∙ own_number m p after here small fits is in
      let long : size ≡ length p = long_is m p after fits is in
      let payload : take size (drop 24 here) ≡ p
      = ap (λ (l : List ℕ). take size l) b.rest ∙ take_at p after size (sym long) in
      let head : take 8 (drop 16 here) ≡ to_le_bytes w64 (checksum m p)
      = sym (third_eight here) ∙ (ap (λ (l : List ℕ). drop 16 l) b.head ∙ third_part m p) in
      let told : said ≡ checksum m p
      = says.said_is ∙ (ap (from_le_bytes w64) head ∙ from_le_bytes-to_le_bytes_8 (checksum m p) (checksum_small m p)) in
      wrong (told ∙ (ap₂ (λ (a b : ℕ). hashed (measured a b) p) (sym number) (sym long) ∙ ap (hashed (measured own size)) (sym payload)))

-- the payload of the head at a place
pub part_behind : (place size : ℕ) (bytes : List ℕ) → part (place + 24) (place + 24 + size) bytes ≡ take size (drop 24 (drop place bytes))
part_behind place size bytes =
    let long : place + 24 + size - (place + 24) ≡ size = omega arith in
    ap₂ (λ (k : ℕ) (l : List ℕ). take k l) long (sym (drop-drop 24 place bytes))
