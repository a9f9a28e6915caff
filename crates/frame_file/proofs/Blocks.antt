-- The hash over a block follows from what it makes of the lowest byte.
use Rattle.std.proofs.Common.{
  ◌≡◌,
  ℕ,
  zero,
  suc,
  ◌+◌,
  ◌-◌,
  ◌*◌,
  ◌/◌,
  ◌%◌,
  ◌^◌,
  ◌<◌,
  ◌≤◌,
  List,
  [],
  ◌∷◌,
  ◌++◌,
  length,
  take,
  drop,
  get_or,
  ⊎_elim,
  ◌⊎◌,
  inl,
  inr,
  bit_xor,
  bit_and,
  refl,
  sym,
  ◌∙◌,
  ap,
  ap₂,
  subst,
  arith,
  length-drop,
  length-append,
}
use native.Mathlib.Nat.{pow-zero, pow-suc, mul_assoc, mul_comm}
use Rattle.std.specs.Int.Bits.{xor_add_and}
use Rattle.std.proofs.lemmas.Nat.{and_assoc, mul-mod_first, mul-mod_second}
use Rattle.std.proofs.lemmas.Grind.{and_numeral, numeral_and}
use Rattle.std.proofs.lemmas.List.{get_or-drop, drop-drop, length-take-le}
use Rattle.std.proofs.Math.Seq.{take-add}
use Rattle.frame_file.specs.Frame.{hash_step, hashed}
use Rattle.frame_file.specs.Sums.{AreBytes, AreSums, part, block_at}
use Rattle.frame_file.specs.declared.sums.Sums.{Sums}

and_lowest : (x b : ℕ) → b < 256 → bit_and x b ≡ bit_and (x % 256) b
and_lowest x b small =
    let whole : bit_and 255 b ≡ b = numeral_and 254 b refl ∙ omega (arith, small) in
    ap (bit_and x) (sym whole) ∙ (sym (and_assoc b x 255) ∙ ap (λ (y : ℕ). bit_and y b) (and_numeral x 254 refl))

xor_above : (x d b : ℕ) → b < 256 → bit_xor (x + 256 * d) b ≡ bit_xor x b + 256 * d
xor_above x d b small =
    let same : (x + 256 * d) % 256 ≡ x % 256 = omega arith in
    let both : bit_and (x + 256 * d) b ≡ bit_and x b
    = and_lowest (x + 256 * d) b small ∙ (ap (λ (y : ℕ). bit_and y b) same ∙ sym (and_lowest x b small)) in
    omega (arith, xor_add_and (x + 256 * d) b, xor_add_and x b, both)

times : (y q : ℕ) → ((y + 18446744073709551616 * q) * 1099511628211) % 18446744073709551616 ≡ (y * 1099511628211) % 18446744073709551616
times y q = omega arith

step_mod : (x b : ℕ) → b < 256 → hash_step (x % 2 ^ 64) b ≡ hash_step x b
step_mod x b small =
    let q = x / 18446744073709551616 in
    let split : x ≡ x % 18446744073709551616 + 256 * (72057594037927936 * q) = omega arith in
    let y = bit_xor (x % 18446744073709551616) b in
    let whole : bit_xor x b ≡ y + 18446744073709551616 * q
    = ap (λ (z : ℕ). bit_xor z b) split ∙ (xor_above (x % 18446744073709551616) (72057594037927936 * q) b small ∙ omega arith) in
    sym (ap (λ (z : ℕ). (z * 1099511628211) % 18446744073709551616) whole ∙ times y q)

hashed_mod : (bytes : List ℕ) (x : ℕ) → AreBytes bytes → hashed (x % 2 ^ 64) bytes % 2 ^ 64 ≡ hashed x bytes % 2 ^ 64
unfolding hashed
hashed_mod [] x are = omega arith
hashed_mod (b ∷ bytes) x are = ap (λ (h : ℕ). hashed h bytes % 2 ^ 64) (step_mod x b (are 0))

pub hashed_small : (bytes : List ℕ) (x : ℕ) → x < 2 ^ 64 → hashed x bytes < 2 ^ 64
unfolding hashed
hashed_small [] x small = small
hashed_small (b ∷ bytes) x small = hashed_small bytes (hash_step x b) (omega arith)

sums_mod : (a b j k : ℕ) → a % 18446744073709551616 ≡ b % 18446744073709551616 → j ≡ k
    → (a + 256 * j) % 18446744073709551616 ≡ (b + 256 * k) % 18446744073709551616
sums_mod a b j k e f = omega (arith, e, f)

above : (bytes : List ℕ) (x d : ℕ) → AreBytes bytes
    → hashed (x + 256 * d) bytes % 2 ^ 64 ≡ (hashed x bytes + 256 * (d * 1099511628211 ^ length bytes)) % 2 ^ 64
unfolding hashed
above [] x d are =
    let same : d * 1099511628211 ^ 0 ≡ d = ap (λ (k : ℕ). d * k) (pow-zero 1099511628211) ∙ omega arith in
    ap (λ (k : ℕ). (x + 256 * k) % 2 ^ 64) (sym same)
above (b ∷ bytes) x d are =
    let p : ℕ = 1099511628211 in
    let y = bit_xor x b in
    let n = p ^ length bytes in
    let rest : AreBytes bytes = λ i. are (suc i) in
    let step : hash_step (x + 256 * d) b ≡ (y * p + 256 * (d * p)) % 2 ^ 64
    = ap (λ (z : ℕ). (z * p) % 2 ^ 64) (xor_above x d b (are 0)) ∙ ap (λ (z : ℕ). z % 2 ^ 64) (spread y d) in
    let same : hashed ((y * p) % 2 ^ 64) bytes % 2 ^ 64 ≡ hashed (y * p) bytes % 2 ^ 64 = hashed_mod bytes (y * p) rest in
    let turned : d * p * n ≡ d * (p ^ suc (length bytes))
    = mul_assoc d p n ∙ ap (λ (z : ℕ). d * z) (mul_comm p n ∙ sym (pow-suc p (length bytes))) in
    ap (λ (h : ℕ). hashed h bytes % 2 ^ 64) step
    ∙ (hashed_mod bytes (y * p + 256 * (d * p)) rest
    ∙ (above bytes (y * p) (d * p) rest
    ∙ sums_mod (hashed (y * p) bytes) (hashed ((y * p) % 2 ^ 64) bytes) (d * p * n) (d * (p ^ suc (length bytes))) (sym same) turned))
  where
    spread : (a c : ℕ) → (a + 256 * c) * 1099511628211 ≡ a * 1099511628211 + 256 * (c * 1099511628211)
    spread a c = omega arith

pub over_block : (bytes : List ℕ) (h lowest factor : ℕ) → AreBytes bytes → h < 2 ^ 64 → lowest ≡ hashed (h % 256) bytes
    → factor ≡ 1099511628211 ^ length bytes % 2 ^ 64 → (lowest + ((h - h % 256) * factor) % 2 ^ 64) % 2 ^ 64 ≡ hashed h bytes
over_block bytes h lowest factor are small lowest_is factor_is =
    let n = 1099511628211 ^ length bytes in
    let split : h ≡ h % 256 + 256 * (h / 256) = omega arith in
    let high : h - h % 256 ≡ 256 * (h / 256) = omega arith in
    let product : ((h - h % 256) * factor) % 2 ^ 64 ≡ (256 * (h / 256 * n)) % 2 ^ 64
    = ap₂ (λ (a b : ℕ). (a * b) % 2 ^ 64) high factor_is
    ∙ (mul-mod_second (256 * (h / 256)) n (2 ^ 64) ∙ ap (λ (z : ℕ). z % 2 ^ 64) (mul_assoc 256 (h / 256) n)) in
    let whole : hashed h bytes % 2 ^ 64 ≡ (hashed (h % 256) bytes + 256 * (h / 256 * n)) % 2 ^ 64
    = ap (λ (z : ℕ). hashed z bytes % 2 ^ 64) split ∙ above bytes (h % 256) (h / 256) are in
    joined lowest (hashed (h % 256) bytes) (256 * (h / 256 * n)) (((h - h % 256) * factor) % 2 ^ 64) (hashed h bytes)
    lowest_is product whole (hashed_small bytes h small)
  where
    joined : (a b k m s : ℕ) → a ≡ b → m ≡ k % 18446744073709551616 → s % 18446744073709551616 ≡ (b + k) % 18446744073709551616
        → s < 18446744073709551616 → (a + m) % 18446744073709551616 ≡ s
    joined a b k m s e f g small = omega (arith, e, f, g, small)

-- ---- parts of bytes

pub bytes_take : (k : ℕ) (bytes : List ℕ) → AreBytes bytes → AreBytes (take k bytes)
bytes_take zero bytes are i = omega arith
bytes_take (suc k) [] are i = omega arith
bytes_take (suc k) (b ∷ bytes) are zero = are 0
bytes_take (suc k) (b ∷ bytes) are (suc i) = bytes_take k bytes (λ j. are (suc j)) i

pub bytes_drop : (k : ℕ) (bytes : List ℕ) → AreBytes bytes → AreBytes (drop k bytes)
bytes_drop k bytes are i = subst (λ (x : ℕ). x < 256) (sym (get_or-drop k bytes i 0)) (are (k + i))

pub hashed_joined : (a b : List ℕ) (h : ℕ) → hashed h (a ++ b) ≡ hashed (hashed h a) b
unfolding hashed
hashed_joined [] b h = refl
hashed_joined (x ∷ a) b h = hashed_joined a b (hash_step h x)

pub part_joined : (start mid end : ℕ) (bytes : List ℕ) → start ≤ mid → mid ≤ end → part start end bytes ≡ part start mid bytes ++ part mid end bytes
part_joined start mid end bytes first last =
    let split : end - start ≡ (mid - start) + (end - mid) = omega (arith, first, last) in
    let on : start + (mid - start) ≡ mid = omega (arith, first) in
    ap (λ (k : ℕ). take k (drop start bytes)) split
    ∙ (take-add (mid - start) (end - mid) (drop start bytes)
    ∙ ap (λ (l : List ℕ). part start mid bytes ++ take (end - mid) l) (drop-drop (mid - start) start bytes ∙ ap (λ (k : ℕ). drop k bytes) on))

pub over_part : (start mid end h : ℕ) (bytes : List ℕ) → start ≤ mid → mid ≤ end
    → hashed h (part start end bytes) ≡ hashed (hashed h (part start mid bytes)) (part mid end bytes)
over_part start mid end h bytes first last =
    ap (hashed h) (part_joined start mid end bytes first last) ∙ hashed_joined (part start mid bytes) (part mid end bytes) h

-- ---- the table, and how it is gone over

pub power_on : (w n : ℕ) → w ≡ 1099511628211 ^ n % 2 ^ 64 → (w * 1099511628211) % 2 ^ 64 ≡ 1099511628211 ^ (n + 1) % 2 ^ 64
power_on w n is =
    let p : ℕ = 1099511628211 in
    let on : n + 1 ≡ suc n = omega arith in
    ap (λ (x : ℕ). (x * p) % 2 ^ 64) is
    ∙ (mul-mod_first (p ^ n) p (2 ^ 64) ∙ ap (λ (x : ℕ). x % 2 ^ 64) (sym (pow-suc p n) ∙ ap (λ (k : ℕ). p ^ k) (sym on)))

abbrev pub Entries : List ℕ → List ℕ → Type 0
Entries bytes table = (i : ℕ) → i < length table → get_or table i 0 ≡ hashed (i % 256) (block_at (i / 256) bytes)

at_end : (xs : List ℕ) (x : ℕ) → get_or (xs ++ x ∷ []) (length xs) 0 ≡ x
at_end [] x = refl
at_end (y ∷ xs) x = at_end xs x

at_front : (xs : List ℕ) (x i : ℕ) → i < length xs → get_or (xs ++ x ∷ []) i 0 ≡ get_or xs i 0
at_front [] x i inside = absurd (omega arith)
at_front (y ∷ xs) x zero inside = refl
at_front (y ∷ xs) x (suc i) inside = at_front xs x i (omega arith)

pub entry_on : (bytes old new : List ℕ) (lowest : ℕ) → new ≡ old ++ lowest ∷ [] → Entries bytes old
    → lowest ≡ hashed (length old % 256) (block_at (length old / 256) bytes) → Entries bytes new
entry_on bytes old new lowest grown so_far is i inside =
    let within : i < length old + 1 = (let long = ap length grown in omega (arith, inside, long, length-append old (lowest ∷ []))) in
    ap (λ (l : List ℕ). get_or l i 0) grown ∙ ⊎_elim
    (λ (less : i < length old). at_front old lowest i less ∙ so_far i less)
    (λ (last : i ≡ length old). ap (λ (k : ℕ). get_or (old ++ lowest ∷ []) k 0) last
    ∙ (at_end old lowest ∙ (is ∙ ap (λ (k : ℕ). hashed (k % 256) (block_at (k / 256) bytes)) (sym last))))
    (which i (length old) within)
  where
    which : (a b : ℕ) → a < b + 1 → (a < b) ⊎ (a ≡ b)
    which zero zero less = inr refl
    which zero (suc b) less = inl (omega arith)
    which (suc a) zero less = absurd (omega arith)
    which (suc a) (suc b) less = ⊎_elim (λ (l : a < b). inl (omega (arith, l))) (λ (e : a ≡ b). inr (ap suc e)) (which a b (omega arith))

pub nothing_over : (k h : ℕ) (bytes : List ℕ) → hashed h (part k k bytes) ≡ h
unfolding hashed
nothing_over k h bytes = (let none : k - k ≡ 0 = omega arith in ap (λ (n : ℕ). hashed h (take n (drop k bytes))) none)

same_at : (xs : List ℕ) (i d e : ℕ) → i < length xs → get_or xs i d ≡ get_or xs i e
same_at [] i d e inside = absurd (omega arith)
same_at (x ∷ xs) zero d e inside = refl
same_at (x ∷ xs) (suc i) d e inside = same_at xs i d e (omega arith)

pub block_on : (bytes : List ℕ) (sums : Sums) (block last hash lowest new : ℕ) → AreSums bytes sums → AreBytes bytes → 4096 * last ≤ length bytes
    → block < last → 256 * last ≤ length sums.table.items → hash < 2 ^ 64
    → lowest ≡ get_or sums.table.items (block * 256 + hash % 256) lowest
    → new ≡ (lowest + ((hash - hash % 256) * sums.factor) % 2 ^ 64) % 2 ^ 64
    → hashed new (part (4096 * (block + 1)) (4096 * last) bytes) ≡ hashed hash (part (4096 * block) (4096 * last) bytes)
block_on bytes sums block last hash lowest new of are inside before filled small lowest_is new_is =
    let i = block * 256 + hash % 256 in
    let low : i % 256 ≡ hash % 256 = omega arith in
    let at : i / 256 ≡ block = omega arith in
    let there : i < length sums.table.items = omega (arith, before, filled) in
    let entry : lowest ≡ hashed (hash % 256) (block_at block bytes)
    = lowest_is ∙ (same_at sums.table.items i lowest 0 there
    ∙ of.each i there ∙ ap₂ (λ (a b : ℕ). hashed a (block_at b bytes)) low at) in
    let long : length (block_at block bytes) ≡ 4096
    = length-take-le 4096 (drop (4096 * block) bytes) (omega (arith, before, inside, length-drop (4096 * block) bytes)) in
    let power : sums.factor ≡ 1099511628211 ^ length (block_at block bytes) % 2 ^ 64
    = of.factor ∙ ap (λ (k : ℕ). 1099511628211 ^ k % 2 ^ 64) (sym long) in
    let over : new ≡ hashed hash (block_at block bytes)
    = new_is
    ∙ over_block (block_at block bytes) hash lowest sums.factor
    (bytes_take 4096 (drop (4096 * block) bytes) (bytes_drop (4096 * block) bytes are)) small entry power in
    let size : 4096 ≡ 4096 * (block + 1) - 4096 * block = omega arith in
    ap (λ (h : ℕ). hashed h (part (4096 * (block + 1)) (4096 * last) bytes)) (over ∙ ap (λ (k : ℕ). hashed hash (take k (drop (4096 * block) bytes))) size)
    ∙ sym (over_part (4096 * block) (4096 * (block + 1)) (4096 * last) hash bytes (omega arith) (omega (arith, before)))

pub over_all : (bytes : List ℕ) (start end first last h begun passed sum : ℕ) → start ≤ 4096 * first → first ≤ last → 4096 * last ≤ end
    → begun ≡ hashed h (part start (4096 * first) bytes) → passed ≡ hashed begun (part (4096 * first) (4096 * last) bytes)
    → sum ≡ hashed passed (part (4096 * last) end bytes) → sum ≡ hashed h (part start end bytes)
over_all bytes start end first last h begun passed sum a b c begun_is passed_is sum_is =
    let mid : passed ≡ hashed h (part start (4096 * last) bytes)
    = passed_is
    ∙ (ap (λ (x : ℕ). hashed x (part (4096 * first) (4096 * last) bytes)) begun_is
    ∙ sym (over_part start (4096 * first) (4096 * last) h bytes a (omega (arith, b)))) in
    sum_is
    ∙ (ap (λ (x : ℕ). hashed x (part (4096 * last) end bytes)) mid ∙ sym (over_part start (4096 * last) end h bytes (omega (arith, a, b)) c))
