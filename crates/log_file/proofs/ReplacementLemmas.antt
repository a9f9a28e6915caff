-- What a crash leaves of bytes, and of a file that is begun anew.
use Rattle.std.proofs.Common.{arith, ◌≡◌, ⊎_elim, ℕ, zero, suc, ◌+◌, ◌*◌, ◌≤◌, Some, List, []}
use Rattle.std.proofs.Common.{◌∷◌, ◌++◌, length, take, drop, replicate, Bool, true, false, refl}
use Rattle.std.proofs.Common.{sym, ◌∙◌, ap, subst, append_assoc, length-drop, drop-drop, drop_at}
use Rattle.std.specs.Prelude.{◌==◌, ◌||◌}
use Rattle.std.specs.Int.{w64, to_le_bytes}
use Rattle.std.proofs.lemmas.Bool.{eq-eqb, and_parts, and_from}
use Rattle.frame_file.specs.Device.{IsLeft, word_at}
use Rattle.frame_file.specs.Frame.{head_bytes, checksum, framed, frames_from}
use Rattle.frame_file.specs.Reading.{IsBeforeOrAfter}
use Rattle.frame_file.proofs.Frames.{length-head}
use Rattle.log_file.specs.declared.header.Header.{Header}
use Rattle.log_file.specs.Bytes.{Rows, Batch, based_version, session_bytes, own_bytes, based_header_bytes, payloads_of}
use Rattle.log_file.specs.Reading.{IsFront}
use Rattle.log_file.specs.Replacement.{are_left, may_be_left}
use Rattle.log_file.proofs.BaseLemmas.{length_based}

-- nothing is left of any bytes
pub none_left : (written there : List ℕ) → length there ≡ 0 → are_left written there ≡ true
none_left [] there none = refl
none_left (w ∷ written) [] none = refl
none_left (w ∷ written) (b ∷ there) none = absurd (omega (arith, none))

-- ---- a byte

or_right : (x y : Bool) → y ≡ true → (x || y) ≡ true
or_right true y is = refl
or_right false y is = is

written_byte : (b w : ℕ) → b ≡ w → (b == w || b == 0) ≡ true
written_byte b w is = ap (λ (x : Bool). x || b == 0) (eq-eqb b w is)

hole_byte : (b w : ℕ) → b ≡ 0 → (b == w || b == 0) ≡ true
hole_byte b w is = or_right (b == w) (b == 0) (eq-eqb b 0 is)

-- ---- a word

front_left : (word there : List ℕ) → there ≡ take (length there) word → are_left word there ≡ true
front_left [] there is = refl
front_left (w ∷ word) [] is = refl
front_left (w ∷ word) (b ∷ there) is =
    let one : b ≡ w = (let both : b ∷ there ≡ w ∷ take (length there) word = is in cc) in
    let more : there ≡ take (length there) word = (let both : b ∷ there ≡ w ∷ take (length there) word = is in cc) in
    and_from (b == w || b == 0) (are_left word there) (written_byte b w one) (front_left word there more)

hole_left : (n : ℕ) (word there : List ℕ) → there ≡ take (length there) (replicate n 0) → are_left word there ≡ true
hole_left n [] there is = refl
hole_left n (w ∷ word) [] is = refl
hole_left zero (w ∷ word) (b ∷ there) is = absurd (let bad : b ∷ there ≡ [] = is in cc)
hole_left (suc n) (w ∷ word) (b ∷ there) is =
    let one : b ≡ 0 = (let both : b ∷ there ≡ 0 ∷ take (length there) (replicate n 0) = is in cc) in
    let more : there ≡ take (length there) (replicate n 0)
    = (let both : b ∷ there ≡ 0 ∷ take (length there) (replicate n 0) = is in cc) in
    and_from (b == w || b == 0) (are_left word there) (hole_byte b w one) (hole_left n word there more)

word_left : (word there : List ℕ) → IsLeft word there → are_left word there ≡ true
word_left word there left =
    ⊎_elim (λ (is : there ≡ take (length there) word). front_left word there is)
    (λ (hole : there ≡ take (length there) (replicate 8 0)). hole_left 8 word there hole) left

-- ---- all of them

two_parts : (m : ℕ) (written there : List ℕ) → are_left (take m written) (take m there) ≡ true
    → are_left (drop m written) (drop m there) ≡ true → are_left written there ≡ true
two_parts zero written there first second = second
two_parts (suc m) [] there first second = refl
two_parts (suc m) (w ∷ written) [] first second = refl
two_parts (suc m) (w ∷ written) (b ∷ there) first second =
    let both = and_parts (b == w || b == 0) (are_left (take m written) (take m there)) first in
    and_from (b == w || b == 0) (are_left written there) both.0 (two_parts m written there both.1 second)

next_word : (k : ℕ) (xs : List ℕ) → word_at (suc k) xs ≡ word_at k (drop 8 xs)
next_word k xs =
    let place : 8 * suc k ≡ 8 + 8 * k = omega arith in
    ap (λ (m : ℕ). take 8 (drop m xs)) place ∙ ap (λ (l : List ℕ). take 8 l) (sym (drop-drop (8 * k) 8 xs))

words_left : (n : ℕ) (written there : List ℕ) → length written ≤ 8 * n → ((k : ℕ) → IsLeft (word_at k written) (word_at k there))
    → are_left written there ≡ true
words_left zero [] there short words = refl
words_left zero (w ∷ written) there short words = absurd (omega (arith, short))
words_left (suc n) written there short words =
    let next : (k : ℕ) → IsLeft (word_at k (drop 8 written)) (word_at k (drop 8 there))
    = λ k. subst (λ (w : List ℕ). IsLeft w (word_at k (drop 8 there))) (next_word k written)
    (subst (λ (w : List ℕ). IsLeft (word_at (suc k) written) w) (next_word k there) (words (suc k))) in
    two_parts 8 written there (word_left (take 8 written) (take 8 there) (words 0))
    (words_left n (drop 8 written) (drop 8 there) (omega (arith, short, length-drop 8 written)) next)

-- of a front of what was written
less_left : (a b there : List ℕ) → are_left (a ++ b) there ≡ true → are_left a there ≡ true
less_left [] b there is = refl
less_left (w ∷ a) b [] is = refl
less_left (w ∷ a) b (x ∷ there) is =
    let both = and_parts (x == w || x == 0) (are_left (a ++ b) there) is in
    and_from (x == w || x == 0) (are_left a there) both.0 (less_left a b there both.1)

-- behind so many bytes
behind_left : (m : ℕ) (written there : List ℕ) → are_left written there ≡ true → are_left (drop m written) (drop m there) ≡ true
behind_left zero written there is = is
behind_left (suc m) [] there is = refl
behind_left (suc m) (w ∷ written) [] is = none_left (drop m written) [] refl
behind_left (suc m) (w ∷ written) (b ∷ there) is =
    behind_left m written there (and_parts (b == w || b == 0) (are_left written there) is).1

-- where all of them were written
own_left : (written more : List ℕ) → are_left written (written ++ more) ≡ true
own_left [] more = refl
own_left (w ∷ written) more =
    and_from (w == w || w == 0) (are_left written (written ++ more)) (written_byte w w refl) (own_left written more)

-- ---- a file that is begun anew

frame_parts : (p : List ℕ) (n : ℕ) → length p ≡ n → framed 0 p ≡ (to_le_bytes w64 0 ++ to_le_bytes w64 n) ++ (to_le_bytes w64 (checksum 0 p) ++ p)
unfolding head_bytes
frame_parts p n size =
    append_assoc (to_le_bytes w64 0 ++ to_le_bytes w64 (length p)) (to_le_bytes w64 (checksum 0 p)) p
    ∙ ap (λ (m : ℕ). (to_le_bytes w64 0 ++ to_le_bytes w64 m) ++ (to_le_bytes w64 (checksum 0 p) ++ p)) size

header_left : (h : Header) (n : ℕ) (there : List ℕ) → are_left (based_header_bytes h n) there ≡ true
    → are_left (own_bytes (based_version h.session) h) there ≡ true
unfolding based_header_bytes
header_left h n there left = less_left (own_bytes (based_version h.session) h) (to_le_bytes w64 n) there left

frame_left : (h : Header) (n : ℕ) (file : List ℕ) → length h.digest ≡ 32 → are_left (framed 0 (based_header_bytes h n)) file ≡ true
    → may_be_left h file ≡ true
frame_left h n file digest left =
    let p = based_header_bytes h n in
    let long = 72 + length (session_bytes h.session) in
    let size : length p ≡ 72 + length (session_bytes h.session) = omega (arith, length_based h n, digest) in
    let numbered = less_left (to_le_bytes w64 0 ++ to_le_bytes w64 long) (to_le_bytes w64 (checksum 0 p) ++ p) file
    (subst (λ (w : List ℕ). are_left w file ≡ true) (frame_parts p long size) left) in
    let behind = subst (λ (w : List ℕ). are_left w (drop 24 file) ≡ true) (drop_at (head_bytes 0 p) p 24 (length-head 0 p))
    (behind_left 24 (framed 0 p) file left) in
    and_from (are_left (to_le_bytes w64 0 ++ to_le_bytes w64 long) file) (are_left (own_bytes (based_version h.session) h) (drop 24 file))
    numbered (header_left h n (drop 24 file) behind)

first_left : (head : List ℕ) (rest before : List (List ℕ)) (payload : List ℕ) (after : List (List ℕ)) (file : List ℕ)
    → head ∷ rest ≡ before ++ payload ∷ after → IsBeforeOrAfter before payload file → are_left (framed 0 head) file ≡ true
first_left head rest [] payload after file is left =
    let t = left.bytes in
    let same : payload ≡ head = (let both : head ∷ rest ≡ payload ∷ after = is in cc) in
    let written = framed 0 payload in
    let there = words_left (length written) written t.tail (omega arith) t.words in
    subst (λ (p : List ℕ). are_left (framed 0 p) file ≡ true) same (subst (λ (f : List ℕ). are_left written f ≡ true) (sym t.is) there)
first_left head rest (b ∷ before) payload after file is left =
    let t = left.bytes in
    let same : b ≡ head = (let both : head ∷ rest ≡ b ∷ (before ++ payload ∷ after) = is in cc) in
    let whole = t.is ∙ append_assoc (framed 0 b) (frames_from 1 before) t.tail in
    subst (λ (p : List ℕ). are_left (framed 0 p) file ≡ true) same
    (subst (λ (f : List ℕ). are_left (framed 0 b) f ≡ true) (sym whole) (own_left (framed 0 b) (frames_from 1 before ++ t.tail)))

pub crashes_may_be_left : (h : Header) (base : Rows) (batches : List Batch) (file : List ℕ) → length h.digest ≡ 32
    → IsFront (payloads_of h (Some base) batches) file → may_be_left h file ≡ true
crashes_may_be_left h base batches file digest front =
    let head = based_header_bytes h (length base) in
    frame_left h (length base) file digest (first_left head _ front.before front.payload front.after file front.is front.left)
