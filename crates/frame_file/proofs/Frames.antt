-- The bytes of one frame, and of frames one behind another.
use Rattle.std.proofs.Common.{
  ◌≡◌,
  ℕ,
  ◌+◌,
  ◌<◌,
  ◌^◌,
  List,
  [],
  ◌∷◌,
  ◌++◌,
  length,
  take,
  drop,
  refl,
  sym,
  ◌∙◌,
  ap,
  ap₂,
  subst,
  arith,
  append_assoc,
  length-append,
  take-append-drop,
}
use Rattle.std.specs.Int.{w64, to_le_bytes, from_le_bytes}
use Rattle.std.proofs.lemmas.List.{take_at, drop_at, append-nil, take-take}
use Rattle.std.proofs.lemmas.Nat.{from_le_bytes-to_le_bytes_8}
use Rattle.std.proofs.Math.Seq.{take-add}
use Rattle.byteorder.specs.Endian.{little_number}
use Rattle.frame_file.specs.Frame.{head_bytes, checksum, framed, frames_from, IsPayload, ArePayloads, NoFrame, NoneBegins}

pub long_is : (bytes : List ℕ) → little_number 8 bytes ≡ from_le_bytes w64 bytes
long_is bytes = omega arith

-- ---- one frame

pub length-head : (n : ℕ) (p : List ℕ) → length (head_bytes n p) ≡ 24
unfolding head_bytes
length-head n p = refl

pub number_back : (n : ℕ) (p : List ℕ) → n < 2 ^ 64 → from_le_bytes w64 (take 8 (head_bytes n p)) ≡ n
unfolding head_bytes
number_back n p small = from_le_bytes-to_le_bytes_8 n small

pub length_back : (n : ℕ) (p : List ℕ) → IsPayload p → from_le_bytes w64 (take 8 (drop 8 (head_bytes n p))) ≡ length p
unfolding head_bytes
length_back n p fits = from_le_bytes-to_le_bytes_8 (length p) fits

parts : (head : List ℕ) → (take 8 head ++ take 8 (drop 8 head)) ++ drop 16 head ≡ head
parts head = ap (λ (x : List ℕ). x ++ drop 16 head) (sym (take-add 8 8 head)) ∙ take-append-drop 16 head

-- the three parts of a head
pub head_parts : (n : ℕ) (p head : List ℕ) → take 8 head ≡ to_le_bytes w64 n → take 8 (drop 8 head) ≡ to_le_bytes w64 (length p)
    → drop 16 head ≡ to_le_bytes w64 (checksum n p) → head ≡ head_bytes n p
unfolding head_bytes
head_parts n p head a b c =
    sym (parts head)
    ∙ (ap (λ (x : List ℕ). (x ++ take 8 (drop 8 head)) ++ drop 16 head) a
    ∙ (ap (λ (x : List ℕ). (to_le_bytes w64 n ++ x) ++ drop 16 head) b
    ∙ ap (λ (x : List ℕ). (to_le_bytes w64 n ++ to_le_bytes w64 (length p)) ++ x) c))

pub first_part : (n : ℕ) (p : List ℕ) → take 8 (head_bytes n p) ≡ to_le_bytes w64 n
unfolding head_bytes
first_part n p = refl

pub second_part : (n : ℕ) (p : List ℕ) → take 8 (drop 8 (head_bytes n p)) ≡ to_le_bytes w64 (length p)
unfolding head_bytes
second_part n p = refl

pub third_part : (n : ℕ) (p : List ℕ) → drop 16 (head_bytes n p) ≡ to_le_bytes w64 (checksum n p)
unfolding head_bytes
third_part n p = refl

-- what bytes that begin with a frame are
pub record Begun (n : ℕ) (p after bytes : List ℕ) : Type 0 where
  pub head : take 24 bytes ≡ head_bytes n p
  pub rest : drop 24 bytes ≡ p ++ after
  pub long : from_le_bytes w64 (take 8 (drop 8 (take 24 bytes))) ≡ length p
  pub size : length bytes ≡ 24 + length p + length after

pub begun : (n : ℕ) (p after bytes : List ℕ) → IsPayload p → bytes ≡ framed n p ++ after → Begun n p after bytes
begun n p after bytes fits is =
    let whole : bytes ≡ head_bytes n p ++ (p ++ after) = is ∙ append_assoc (head_bytes n p) p after in
    let head : take 24 bytes ≡ head_bytes n p = ap (λ (b : List ℕ). take 24 b) whole ∙ take_at (head_bytes n p) (p ++ after) 24 (length-head n p) in
    let size : length bytes ≡ 24 + length p + length after =
    ap length whole ∙ omega (arith, length-append (head_bytes n p) (p ++ after), length-append p after, length-head n p) in
    record {
      head = head;
      rest = ap (λ (b : List ℕ). drop 24 b) whole ∙ drop_at (head_bytes n p) (p ++ after) 24 (length-head n p);
      long = ap (λ (b : List ℕ). from_le_bytes w64 (take 8 (drop 8 b))) head ∙ length_back n p fits;
      size = size;
    }

-- the same bytes begin with one frame of a number alone
pub one_payload : (n : ℕ) (p q x y : List ℕ) → IsPayload p → IsPayload q → framed n p ++ x ≡ framed n q ++ y → p ≡ q
one_payload n p q x y pf qf is =
    let a = begun n p x (framed n q ++ y) pf (sym is) in
    let b = begun n q y (framed n q ++ y) qf refl in
    let long : length p ≡ length q = sym a.long ∙ b.long in
    sym (take_at p x (length p) refl) ∙ (ap (λ (b : List ℕ). take (length p) b) (sym a.rest ∙ b.rest) ∙ take_at q y (length p) (sym long))

pub one_rest : (n : ℕ) (p q x y : List ℕ) → IsPayload p → IsPayload q → framed n p ++ x ≡ framed n q ++ y → x ≡ y
one_rest n p q x y pf qf is =
    let a = begun n p x (framed n q ++ y) pf (sym is) in
    let b = begun n q y (framed n q ++ y) qf refl in
    let long : length p ≡ length q = sym a.long ∙ b.long in
    sym (drop_at p x (length p) refl) ∙ (ap (λ (b : List ℕ). drop (length p) b) (sym a.rest ∙ b.rest) ∙ drop_at q y (length p) (sym long))

-- ---- bytes that begin with no frame

pub none_short : (n : ℕ) (bytes : List ℕ) → length bytes < 24 → NoFrame n bytes
none_short n bytes short p after fits is = (let size = (begun n p after bytes fits is).size in omega (arith, short, size))

pub none_long : (n : ℕ) (bytes : List ℕ) → length (drop 24 bytes) < from_le_bytes w64 (take 8 (drop 8 (take 24 bytes))) → NoFrame n bytes
none_long n bytes short p after fits is =
    let b = begun n p after bytes fits is in
    let long = b.long in
    let rest = ap length b.rest in
    omega (arith, short, long, rest, length-append p after)

pub none_head : (n : ℕ) (bytes payload : List ℕ) → payload ≡ take (from_le_bytes w64 (take 8 (drop 8 (take 24 bytes)))) (drop 24 bytes)
    → (take 24 bytes ≡ head_bytes n payload → ⊥) → NoFrame n bytes
none_head n bytes payload cut differs p after fits is =
    let b = begun n p after bytes fits is in
    let same : payload ≡ p
    = cut ∙ (ap (λ (k : ℕ). take k (drop 24 bytes)) b.long ∙ (ap (λ (x : List ℕ). take (length p) x) b.rest ∙ take_at p after (length p) refl)) in
    differs (b.head ∙ ap (λ (x : List ℕ). head_bytes n x) (sym same))

pub frame_is : (n : ℕ) (bytes head rest payload after : List ℕ) → bytes ≡ head ++ rest → rest ≡ payload ++ after → head ≡ head_bytes n payload
    → bytes ≡ framed n payload ++ after
frame_is n bytes head rest payload after whole parts is =
    whole
    ∙ (ap (λ (x : List ℕ). x ++ rest) is
    ∙ (ap (λ (x : List ℕ). head_bytes n payload ++ x) parts ∙ sym (append_assoc (head_bytes n payload) payload after)))

pub own_number : (m : ℕ) (p after bytes : List ℕ) → m < 2 ^ 64 → IsPayload p → bytes ≡ framed m p ++ after → from_le_bytes w64 (take 8 bytes) ≡ m
own_number m p after bytes small fits is =
    let b = begun m p after bytes fits is in
    ap (λ (x : List ℕ). from_le_bytes w64 x) (sym (take-take 8 24 bytes (omega arith)) ∙ ap (λ (x : List ℕ). take 8 x) b.head) ∙ number_back m p small

pub none_begins_short : (bytes : List ℕ) → length bytes < 24 → NoneBegins bytes
none_begins_short bytes short m small = none_short m bytes short

pub none_begins : (own : ℕ) (bytes : List ℕ) → own ≡ from_le_bytes w64 (take 8 bytes) → NoFrame own bytes → NoneBegins bytes
none_begins own bytes is none m small p after fits at =
    let same : own ≡ m = is ∙ own_number m p after bytes small fits at in
    none p after fits (at ∙ ap (λ (k : ℕ). framed k p ++ after) (sym same))

pub length-framed : (n : ℕ) (p : List ℕ) → length (framed n p) ≡ 24 + length p
length-framed n p = omega (arith, length-append (head_bytes n p) p, length-head n p)

-- ---- frames one behind another

pub frames_push : (n m : ℕ) (ps : List (List ℕ)) (p : List ℕ) → m ≡ n + length ps → frames_from n (ps ++ p ∷ []) ≡ frames_from n ps ++ framed m p
frames_push n m [] p at = append-nil (framed n p) ∙ ap (λ (k : ℕ). framed k p) (omega (arith, at))
frames_push n m (q ∷ ps) p at =
    ap (λ (b : List ℕ). framed n q ++ b) (frames_push (n + 1) m ps p (omega (arith, at)))
    ∙ sym (append_assoc (framed n q) (frames_from (n + 1) ps) (framed m p))

pub fit_push : (ps : List (List ℕ)) (p : List ℕ) → ArePayloads ps → IsPayload p → ArePayloads (ps ++ p ∷ [])
fit_push [] p fit one = (one, tt)
fit_push (q ∷ ps) p fit one = (fit.0, fit_push ps p fit.1 one)

pub fits_behind : (ps more : List (List ℕ)) (p : List ℕ) → ArePayloads (ps ++ p ∷ more) → IsPayload p
fits_behind [] more p fit = fit.0
fits_behind (q ∷ ps) more p fit = fits_behind ps more p fit.1

-- frames and a rest that begins with none, where other frames and a tail are the same bytes
pub record Goes (n : ℕ) (ps all : List (List ℕ)) (tail rest : List ℕ) : Type 0 where
  pub more : List (List ℕ)
  pub are : all ≡ ps ++ more
  pub left : tail ≡ frames_from (n + length ps) more ++ rest

pub goes : (n m : ℕ) (ps all : List (List ℕ)) (tail rest : List ℕ) → ArePayloads ps → ArePayloads all → m ≡ n + length all → NoFrame m rest
    → frames_from n ps ++ tail ≡ frames_from n all ++ rest → Goes n ps all tail rest
goes n m [] all tail rest pf af at ends is = record {
  more = all;
  are = refl;
  left = is ∙ ap (λ (k : ℕ). frames_from k all ++ rest) (omega arith);
}
goes n m (p ∷ ps) [] tail rest pf af at ends is =
    let alone : m ≡ n = omega (arith, at) in
    let here : NoFrame n rest = subst (λ (k : ℕ). NoFrame k rest) alone ends in
    absurd (here p (frames_from (n + 1) ps ++ tail) pf.0 (sym is ∙ append_assoc (framed n p) (frames_from (n + 1) ps) tail))
goes n m (p ∷ ps) (q ∷ all) tail rest pf af at ends is =
    let x = frames_from (n + 1) ps ++ tail in
    let y = frames_from (n + 1) all ++ rest in
    let same : framed n p ++ x ≡ framed n q ++ y
    = sym (append_assoc (framed n p) (frames_from (n + 1) ps) tail) ∙ (is ∙ append_assoc (framed n q) (frames_from (n + 1) all) rest) in
    let one : p ≡ q = one_payload n p q x y pf.0 af.0 same in
    let r = goes (n + 1) m ps all tail rest pf.1 af.1 (omega (arith, at)) ends (one_rest n p q x y pf.0 af.0 same) in
    record {
      more = r.more;
      are = ap₂ (λ (z : List ℕ) (zs : List (List ℕ)). z ∷ zs) (sym one) r.are;
      left = r.left ∙ ap (λ (k : ℕ). frames_from k r.more ++ rest) (omega arith);
    }
