-- What a log begins with, in parts.
use Rattle.std.proofs.Common.{arith, ◌≡◌, ⊎_elim, ℕ, zero, suc, ◌+◌, ◌-◌, ◌*◌, ◌/◌, ◌%◌, ◌<◌, ◌≤◌, ◌^◌, min, Bool}
use Rattle.std.proofs.Common.{true, List, [], ◌∷◌, ◌++◌, length, get_or, take, drop, map, Option, Some, None, refl}
use Rattle.std.proofs.Common.{slice_get, sym, ◌∙◌, ap, ap₂, subst, append_assoc, length-append, take-append-drop}
use Rattle.std.specs.Int.{w64, to_le_bytes, from_le_bytes}
use Rattle.std.proofs.lemmas.List.{take_at, take_more, drop_at, take_all, take-append-le, drop-append-le, length-drop, length-take, length-map, map-append}
use Rattle.std.proofs.lemmas.Bool.{cases_lt}
use Rattle.std.proofs.lemmas.Option.{slice_get_within, slice_get-get_or}
use Rattle.std.proofs.lemmas.Nat.{from_le_bytes-to_le_bytes_8}
use Rattle.std.proofs.Math.Nat.{min-eq_left, min-eq_right}
use Rattle.access_slots.specs.declared.slot.Record.{Record}
use Rattle.access_slots.specs.Locks.{record_less}
use Rattle.log_file.specs.declared.header.Header.{Header}
use Rattle.log_file.specs.Bytes.{Rows, row_bytes, part_bytes, first_parts, parts_of, front_bytes, based_version, session_bytes, own_bytes, plain_version, header_bytes, based_header_bytes, front_of}
use Rattle.log_file.specs.Reading.{IsRow, AreRows, Rise, IsStart, GoesOn, IsFirstNoPart}
use Rattle.log_file.specs.Joining.Fields.{row_in, rows_in, IsPart, IsAdded, NoneAdded}

-- ---- one record

abbrev Row : Type 0
Row = Record × List ℕ

abbrev row_at : ℕ → ℕ → ℕ → List ℕ → Row
row_at d t k v = (record { dc = d; table = t; key = k }, v)

-- beyond the last one
abbrev pub no_row : Row
no_row = row_at 0 0 0 []

same_row : (d e t u k l : ℕ) (v w : List ℕ) → d ≡ e → t ≡ u → k ≡ l → v ≡ w → row_at d t k v ≡ row_at e u l w
same_row d e t u k l v w a b c f = cc

low_half : (w d t : ℕ) → w ≡ d + 65536 * t → d < 65536 → w % 65536 ≡ d
low_half w d t is small = omega (arith, is, small)

high_half : (w d t : ℕ) → w ≡ d + 65536 * t → d < 65536 → t < 65536 → w / 65536 % 65536 ≡ t
high_half w d t is small few = omega (arith, is, small, few)

pub row_back : (row : Row) → IsRow row → row_in (row_bytes row) ≡ row
unfolding row_bytes
row_back row is =
    let d = row.0.dc in
    let t = row.0.table in
    let word : from_le_bytes w64 (to_le_bytes w64 (d + 65536 * t)) ≡ d + 65536 * t
    = from_le_bytes-to_le_bytes_8 (d + 65536 * t) (let dc = is.dc in let table = is.table in omega (arith, dc, table)) in
    same_row _ d _ t _ row.0.key _ row.1 (low_half _ d t word is.dc) (high_half _ d t word is.dc is.table)
    (from_le_bytes-to_le_bytes_8 row.0.key is.key) refl

pub length_row : (row : Row) → IsRow row → length (row_bytes row) ≡ 80
unfolding row_bytes
length_row row is = (let value = is.value in omega (arith, value))

-- ---- records one behind another

pub length_part : (rows : Rows) → AreRows rows → length (part_bytes rows) ≡ 80 * length rows
length_part [] are = refl
length_part (r ∷ rows) are = omega (arith, length-append (row_bytes r) (part_bytes rows), length_row r are.0, length_part rows are.1)

pub rows_back : (rows : Rows) → AreRows rows → rows_in (length rows) (part_bytes rows) ≡ rows
rows_back [] are = refl
rows_back (r ∷ rows) are =
    let more = part_bytes rows in
    let front : take 80 (row_bytes r ++ more) ≡ row_bytes r = take_at (row_bytes r) more 80 (length_row r are.0) in
    let back : drop 80 (row_bytes r ++ more) ≡ more = drop_at (row_bytes r) more 80 (length_row r are.0) in
    ap₂ (λ (x : Row) (xs : Rows). x ∷ xs) (ap row_in front ∙ row_back r are.0) (ap (λ (b : List ℕ). rows_in (length rows) b) back ∙ rows_back rows are.1)

pub rows_push : (rows : Rows) (r : Row) → AreRows rows → IsRow r → AreRows (rows ++ r ∷ [])
rows_push [] r are is = (is, tt)
rows_push (x ∷ rows) r are is = (are.0, rows_push rows r are.1 is)

pub rows_append : (rows more : Rows) → AreRows rows → AreRows more → AreRows (rows ++ more)
rows_append [] more are also = also
rows_append (x ∷ rows) more are also = (are.0, rows_append rows more are.1 also)

rows_take : (n : ℕ) (rows : Rows) → AreRows rows → AreRows (take n rows)
rows_take zero rows are = tt
rows_take (suc n) [] are = tt
rows_take (suc n) (r ∷ rows) are = (are.0, rows_take n rows are.1)

rows_drop : (n : ℕ) (rows : Rows) → AreRows rows → AreRows (drop n rows)
rows_drop zero rows are = are
rows_drop (suc n) [] are = tt
rows_drop (suc n) (r ∷ rows) are = rows_drop n rows are.1

-- one record more is read
pub rows_further : (rows new : Rows) (count k : ℕ) (x : Row) (rest front back : List ℕ) (total : Rows) → k < count
    → rows ++ rows_in (count - k) rest ≡ total → new ≡ rows ++ x ∷ [] → x ≡ row_in front → front ≡ take 80 rest → back ≡ drop 80 rest
    → new ++ rows_in (count - (k + 1)) back ≡ total
rows_further rows new count k x rest front back total more so_far grown is cut left =
    ap₂ (λ (xs : Rows) (b : List ℕ). xs ++ rows_in (count - (k + 1)) b) grown left
    ∙ append_assoc rows (x ∷ []) (rows_in (count - (k + 1)) (drop 80 rest))
    ∙ ap (λ (n : Row). rows ++ (n ∷ rows_in (count - (k + 1)) (drop 80 rest))) (is ∙ ap row_in cut)
    ∙ ap (λ (n : ℕ). rows ++ rows_in n rest) (sym (one_left count k more))
    ∙ so_far
  where
    one_left : (n i : ℕ) → i < n → n - i ≡ suc (n - (i + 1))
    one_left n i below = omega (arith, below)

-- ---- payloads that are no part

pub length_none : (count : ℕ) (p : List ℕ) → (length p ≡ 80 * count → ⊥) → IsPart count p → ⊥
length_none count p differs is = differs (ap length is.is ∙ (length_part is.part is.rows ∙ ap (λ (n : ℕ). 80 * n) is.size))

pub part_in : (count : ℕ) (p : List ℕ) (is : IsPart count p) → rows_in count p ≡ is.part
part_in count p is = ap₂ rows_in (sym is.size) is.is ∙ rows_back is.part is.rows

pub other_none : (count : ℕ) (p : List ℕ) → (part_bytes (rows_in count p) ≡ p → ⊥) → IsPart count p → ⊥
other_none count p differs is = differs (ap part_bytes (part_in count p is) ∙ sym is.is)

pub length_rows_in : (n : ℕ) (bytes : List ℕ) → length (rows_in n bytes) ≡ n
length_rows_in zero bytes = refl
length_rows_in (suc n) bytes = ap suc (length_rows_in n (drop 80 bytes))

-- ---- records that rise

pub rise_front : (rows more : Rows) → Rise (rows ++ more) → Rise rows
rise_front [] more rise = tt
rise_front (x ∷ []) more rise = tt
rise_front (x ∷ y ∷ rows) more rise = (rise.0, rise_front (y ∷ rows) more rise.1)

-- behind the last one
pub rise_push : (rows : Rows) (r d : Row) (i : ℕ) → suc i ≡ length rows → Rise rows → record_less (get_or rows i d).0 r.0 ≡ true → Rise (rows ++ r ∷ [])
rise_push [] r d i last rise less = tt
rise_push (x ∷ []) r d zero last rise less = (less, tt)
rise_push (x ∷ []) r d (suc i) last rise less = absurd (omega (arith, last))
rise_push (x ∷ y ∷ rows) r d zero last rise less = absurd (omega (arith, last))
rise_push (x ∷ y ∷ rows) r d (suc i) last rise less = (rise.0, rise_push (y ∷ rows) r d i (omega (arith, last)) rise.1 less)

pub rise_last : (rows : Rows) (r d : Row) (i : ℕ) → suc i ≡ length rows → Rise (rows ++ r ∷ []) → record_less (get_or rows i d).0 r.0 ≡ true
rise_last [] r d i last rise = absurd (omega (arith, last))
rise_last (x ∷ []) r d zero last rise = rise.0
rise_last (x ∷ []) r d (suc i) last rise = absurd (omega (arith, last))
rise_last (x ∷ y ∷ rows) r d zero last rise = absurd (omega (arith, last))
rise_last (x ∷ y ∷ rows) r d (suc i) last rise = rise_last (y ∷ rows) r d i (omega (arith, last)) rise.1

-- whether a record stands above the last one
pub above_is : (rows : Rows) (last r : Row) (b : Bool) → Rise rows → slice_get rows (length rows - 1) ≡ Some last → b ≡ record_less last.0 r.0
    → (b ≡ true → Rise (rows ++ r ∷ [])) × (Rise (rows ++ r ∷ []) → b ≡ true)
above_is rows last r b rise at is =
    let i = length rows - 1 in
    let inside = slice_get_within rows i last at in
    let both : Some (get_or rows i last) ≡ Some last = sym (slice_get-get_or rows i last inside) ∙ at in
    let same : get_or rows i last ≡ last = cc in
    let one : suc i ≡ length rows = omega (arith, inside) in
    let less : record_less (get_or rows i last).0 r.0 ≡ b = ap (λ (x : Row). record_less x.0 r.0) same ∙ sym is in
    (λ yes. rise_push rows r last i one rise (less ∙ yes), λ more. sym less ∙ rise_last rows r last i one more)

pub none_above : (rows : Rows) (r : Row) → rows ≡ [] → Rise (rows ++ r ∷ [])
none_above rows r none = subst (λ (l : Rows). Rise (l ++ r ∷ [])) (sym none) tt

-- the first that doesn't
pub broken : (old all base : Rows) (i : ℕ) (d : Row) → i < length all → base ≡ old ++ take i all
    → (Rise (base ++ get_or all i d ∷ []) → ⊥) → Rise (old ++ all) → ⊥
broken old all base i d inside is never rise =
    let one = get_or all i d ∷ [] in
    let cut : old ++ all ≡ (base ++ one) ++ drop (i + 1) all
    = ap (λ (l : Rows). old ++ l) (sym (take-append-drop (i + 1) all) ∙ ap (λ (l : Rows). l ++ drop (i + 1) all) (take_more all i d inside))
    ∙ (sym (append_assoc old (take i all ++ one) (drop (i + 1) all))
    ∙ ap (λ (l : Rows). l ++ drop (i + 1) all) (sym (append_assoc old (take i all) one) ∙ ap (λ (l : Rows). l ++ one) (sym is))) in
    never (rise_front (base ++ one) (drop (i + 1) all) (subst Rise cut rise))

pub grown : (old all base new : Rows) (i : ℕ) (d : Row) → i < length all → base ≡ old ++ take i all
    → new ≡ base ++ get_or all i d ∷ [] → new ≡ old ++ take (i + 1) all
grown old all base new i d inside is push =
    let one = get_or all i d ∷ [] in
    push ∙ (ap (λ (l : Rows). l ++ one) is ∙ (append_assoc old (take i all) one ∙ ap (λ (l : Rows). old ++ l) (sym (take_more all i d inside))))

-- ---- parts

first_push : (k : ℕ) (before part : Rows) → length before ≡ 4096 * k → length part ≤ 4096
    → first_parts (suc k) (before ++ part) ≡ first_parts k before ++ part ∷ []
first_push zero [] part len few = ap (λ (p : Rows). p ∷ []) (take_all 4096 part few)
first_push zero (x ∷ before) part len few = absurd (omega (arith, len))
first_push (suc k) before part len few =
    let front : take 4096 (before ++ part) ≡ take 4096 before = take-append-le 4096 before part (omega (arith, len)) in
    let back : drop 4096 (before ++ part) ≡ drop 4096 before ++ part = drop-append-le 4096 before part (omega (arith, len)) in
    let rest = first_push k (drop 4096 before) part (omega (arith, len, length-drop 4096 before)) few in
    ap₂ (λ (p : Rows) (ps : List Rows). p ∷ ps) front (ap (first_parts (suc k)) back ∙ rest)

count_push : (n m b p : ℕ) → b % 4096 ≡ 0 → 0 < p → p ≤ 4096 → n ≡ b + p → m ≡ (b + 4095) / 4096 → (n + 4095) / 4096 ≡ suc m
count_push n m b p whole some few sum is = omega (arith, whole, some, few, sum, is)

count_whole : (b m : ℕ) → b % 4096 ≡ 0 → m ≡ (b + 4095) / 4096 → b ≡ 4096 * m
count_whole b m whole is = omega (arith, whole, is)

-- one part more behind whole ones
pub parts_push : (before part : Rows) → length before % 4096 ≡ 0 → 0 < length part → length part ≤ 4096
    → parts_of (before ++ part) ≡ parts_of before ++ part ∷ []
parts_push before part whole some few =
    let k = (length before + 4095) / 4096 in
    ap (λ (n : ℕ). first_parts n (before ++ part)) (count_push (length (before ++ part)) k (length before) (length part)
    whole some few (length-append before part) refl)
    ∙ first_push k before part (count_whole (length before) k whole refl) few

count_cons : (n m : ℕ) → 0 < n → m ≡ n - 4096 → (n + 4095) / 4096 ≡ suc ((m + 4095) / 4096)
count_cons n m some is = omega (arith, some, is)

-- the first part, and those of what is behind it
pub parts_cons : (rows : Rows) → 0 < length rows → parts_of rows ≡ take 4096 rows ∷ parts_of (drop 4096 rows)
parts_cons rows some = ap (λ (n : ℕ). first_parts n rows) (count_cons (length rows) (length (drop 4096 rows)) some (length-drop 4096 rows))

-- ---- payloads that are the same

head_same : (x y : List ℕ) (xs ys : List (List ℕ)) → x ∷ xs ≡ y ∷ ys → x ≡ y
head_same x y xs ys same = cc

tail_same : (x y : List ℕ) (xs ys : List (List ℕ)) → x ∷ xs ≡ y ∷ ys → xs ≡ ys
tail_same x y xs ys same = cc

part_same : (a b : Rows) → AreRows a → AreRows b → length a ≡ length b → part_bytes a ≡ part_bytes b → a ≡ b
part_same a b x y len same = sym (rows_back a x) ∙ (ap₂ rows_in len same ∙ rows_back b y)

pub first_same : (n : ℕ) (a b : Rows) (x y : List (List ℕ)) → AreRows a → AreRows b → length a ≡ length b → length a ≤ 4096 * n
    → map part_bytes (first_parts n a) ++ x ≡ map part_bytes (first_parts n b) ++ y → (a ≡ b) × (x ≡ y)
first_same zero [] [] x y are also len few same = (refl, same)
first_same zero [] (r ∷ b) x y are also len few same = absurd (omega (arith, len))
first_same zero (r ∷ a) b x y are also len few same = absurd (omega (arith, few))
first_same (suc n) a b x y are also len few same =
    let one = part_same (take 4096 a) (take 4096 b) (rows_take 4096 a are) (rows_take 4096 b also)
    (length-take 4096 a ∙ (ap (λ (k : ℕ). min 4096 k) len ∙ sym (length-take 4096 b))) (head_same _ _ _ _ same) in
    let rest = first_same n (drop 4096 a) (drop 4096 b) x y (rows_drop 4096 a are) (rows_drop 4096 b also)
    (length-drop 4096 a ∙ (ap (λ (k : ℕ). k - 4096) len ∙ sym (length-drop 4096 b)))
    (omega (arith, few, length-drop 4096 a)) (tail_same _ _ _ _ same) in
    (sym (take-append-drop 4096 a) ∙ (ap₂ (λ (p q : Rows). p ++ q) one rest.0 ∙ take-append-drop 4096 b), rest.1)

enough : (n : ℕ) → n ≤ 4096 * ((n + 4095) / 4096)
enough n = omega arith

pub parts_same : (a b : Rows) (x y : List (List ℕ)) → AreRows a → AreRows b → length a ≡ length b
    → map part_bytes (parts_of a) ++ x ≡ map part_bytes (parts_of b) ++ y → (a ≡ b) × (x ≡ y)
parts_same a b x y are also len same =
    let n = (length a + 4095) / 4096 in
    first_same n a b x y are also len (enough (length a))
    (same ∙ ap (λ (k : ℕ). map part_bytes (first_parts ((k + 4095) / 4096) b) ++ y) (sym len))

-- ---- one part more is read

pub none_added : (count : ℕ) (p : List ℕ) (old part : Rows) → AreRows part → length part ≡ count → p ≡ part_bytes part
    → (Rise (old ++ part) → ⊥) → NoneAdded count p old
none_added count p old part are size is never other also len rise same =
    never (subst (λ (l : Rows). Rise (old ++ l)) (part_same other part also are (len ∙ sym size) (sym same ∙ is)) rise)

full_size : (count l s : ℕ) → s ≡ min (count - l) 4096 → l < count → (0 < s) × (s ≤ 4096) × (l + s ≤ count) × (l + s < count → s ≡ 4096)
full_size count l s is fewer = ⊎_elim
    (λ (less : count - l < 4096).
    let le : count - l ≤ 4096 = omega (arith, less) in
    let small : s ≡ count - l = is ∙ min-eq_left le in
    (omega (arith, small, fewer), omega (arith, small, le), omega (arith, small, fewer), λ below. absurd (omega (arith, small, below, fewer))))
    (λ (le : 4096 ≤ count - l).
    let full : s ≡ 4096 = is ∙ min-eq_right le in
    (omega (arith, full), omega (arith, full), omega (arith, full, le, fewer), λ below. full))
    (cases_lt (count - l) 4096)

-- what is read so far, the number of records that are wanted being this
pub record SoFar (count : ℕ) (payloads rest : List (List ℕ)) (base : Rows) : Type 0 where
  pub is : payloads ≡ map part_bytes (parts_of base) ++ rest
  pub rows : AreRows base
  pub rise : Rise base
  pub few : length base ≤ count
  pub whole : length base < count → length base % 4096 ≡ 0

pub further : (count size : ℕ) (payloads rest after : List (List ℕ)) (p : List ℕ) (old new : Rows) → SoFar count payloads rest old → length old < count
    → size ≡ min (count - length old) 4096 → rest ≡ p ∷ after → IsAdded size p old new → SoFar count payloads after new
further count size payloads rest after p old new was fewer sized cut added =
    let part = added.part in
    let len : length part ≡ min (count - length old) 4096 = added.size ∙ sized in
    let s = full_size count (length old) (length part) len fewer in
    let long : length new ≡ length old + length part = ap length added.new_is ∙ length-append old part in
    let whole = was.whole fewer in
    let grown : parts_of new ≡ parts_of old ++ part ∷ [] = ap parts_of added.new_is ∙ parts_push old part whole s.0 s.1 in
    record {
      is =
          was.is
          ∙ (ap (λ (ps : List (List ℕ)). map part_bytes (parts_of old) ++ ps) (cut ∙ ap (λ (q : List ℕ). q ∷ after) added.is)
          ∙ (sym (append_assoc (map part_bytes (parts_of old)) (part_bytes part ∷ []) after)
          ∙ ap (λ (ps : List (List ℕ)). ps ++ after) (sym (map-append part_bytes (parts_of old) (part ∷ [])) ∙ ap (map part_bytes) (sym grown))));
      rows = subst AreRows (sym added.new_is) (rows_append old part was.rows added.rows);
      rise = added.rise;
      few = (let fits = s.2 in omega (arith, long, fits));
      whole = λ less. (let full : length part ≡ 4096 = s.3 (omega (arith, less, long)) in omega (arith, long, whole, full));
    }

-- and where no part goes on, this is the first
pub stops : (count number : ℕ) (payloads rest : List (List ℕ)) (base : Rows) → SoFar count payloads rest base → length base < count
    → number ≡ length (parts_of base) + 1 → ((part : Rows) (after : List (List ℕ)) → GoesOn count base part → rest ≡ part_bytes part ∷ after → ⊥)
    → IsFirstNoPart count payloads number
stops count number payloads rest base was fewer at none = record {
  before = base;
  rest = rest;
  is = was.is;
  whole = was.whole fewer;
  fewer = fewer;
  rows = was.rows;
  rise = was.rise;
  number_is = at;
  none = none;
}

-- the number of the frame behind those that were read
pub frame_at : (payloads rest : List (List ℕ)) (base : Rows) (n m : ℕ)
    → payloads ≡ map part_bytes (parts_of base) ++ rest → n ≡ length payloads → m ≡ length rest
    → n - m + 1 ≡ length (parts_of base) + 1
frame_at payloads rest base n m is a b =
    omega (arith, a, b, ap length is, length-append (map part_bytes (parts_of base)) rest, length-map (parts_of base) part_bytes)

no_part : (count size : ℕ) (p : List ℕ) (after : List (List ℕ)) (base : Rows) → size ≡ min (count - length base) 4096 → NoneAdded size p base
    → (part : Rows) (others : List (List ℕ)) → GoesOn count base part → p ∷ after ≡ part_bytes part ∷ others → ⊥
no_part count size p after base sized none part others goes same =
    none part goes.rows (goes.size ∙ sym sized) goes.rise (head_same p (part_bytes part) after others same)

pub stops_at : (count number size : ℕ) (payloads rest after : List (List ℕ)) (p : List ℕ) (base : Rows) → SoFar count payloads rest base → length base < count
    → number ≡ length (parts_of base) + 1 → size ≡ min (count - length base) 4096 → rest ≡ p ∷ after → NoneAdded size p base
    → IsFirstNoPart count payloads number
stops_at count number size payloads rest after p base was fewer at sized cut none =
    stops count number payloads rest base was fewer at
    (λ part others goes same. no_part count size p after base sized none part others goes (sym cut ∙ same))

pub stops_short : (count number : ℕ) (payloads rest : List (List ℕ)) (base : Rows) → SoFar count payloads rest base → length base < count
    → number ≡ length (parts_of base) + 1 → rest ≡ [] → IsFirstNoPart count payloads number
stops_short count number payloads rest base was fewer at none =
    stops count number payloads rest base was fewer at
    (λ part others goes same. (let bad : [] ≡ part_bytes part ∷ others = sym none ∙ same in cc))

-- ---- headers

pub count_back : (h : Header) (m n : ℕ) → m < 2 ^ 64 → n < 2 ^ 64 → based_header_bytes h m ≡ based_header_bytes h n → m ≡ n
unfolding based_header_bytes
count_back h m n few also same =
    let front = own_bytes (based_version h.session) h in
    let tails : to_le_bytes w64 m ≡ to_le_bytes w64 n
    = sym (drop_at front (to_le_bytes w64 m) (length front) refl)
    ∙ (ap (λ (l : List ℕ). drop (length front) l) same ∙ drop_at front (to_le_bytes w64 n) (length front) refl) in
    sym (from_le_bytes-to_le_bytes_8 m few) ∙ (ap (from_le_bytes w64) tails ∙ from_le_bytes-to_le_bytes_8 n also)

length_front : (version : ℕ) (h : Header) → length (front_bytes version h) ≡ 32
unfolding front_bytes
length_front version h = refl

length_own : (version : ℕ) (h : Header) → length (own_bytes version h) ≡ 32 + length h.digest + length (session_bytes h.session)
unfolding own_bytes
length_own version h =
    omega (
      arith,
      length-append (front_bytes version h ++ h.digest) (session_bytes h.session),
      length-append (front_bytes version h) h.digest,
      length_front version h,
    )

pub length_plain : (h : Header) → length (header_bytes h) ≡ 32 + length h.digest + length (session_bytes h.session)
unfolding header_bytes
length_plain h = length_own (plain_version h.session) h

pub length_based : (h : Header) (n : ℕ) → length (based_header_bytes h n) ≡ 40 + length h.digest + length (session_bytes h.session)
unfolding based_header_bytes
length_based h n =
    omega (arith, length_own (based_version h.session) h, length-append (own_bytes (based_version h.session) h) (to_le_bytes w64 n))

pub never_both : (h : Header) (n : ℕ) → header_bytes h ≡ based_header_bytes h n → ⊥
never_both h n same = omega (arith, ap length same, length_plain h, length_based h n)

-- the number of base records stands at the end
pub count_at : (h : Header) (n k : ℕ) (p : List ℕ) → n < 2 ^ 64 → p ≡ based_header_bytes h n → k ≡ length p - 8 → from_le_bytes w64 (drop k p) ≡ n
unfolding based_header_bytes
count_at h n k p few is at =
    let front = own_bytes (based_version h.session) h in
    let long : length front ≡ k = (let len = ap length is in omega (arith, at, len, length-append front (to_le_bytes w64 n))) in
    ap (λ (l : List ℕ). from_le_bytes w64 (drop k l)) is
    ∙ (ap (from_le_bytes w64) (drop_at front (to_le_bytes w64 n) k long) ∙ from_le_bytes-to_le_bytes_8 n few)

pub short_count : (h : Header) (n : ℕ) (p : List ℕ) → length p < 8 → p ≡ based_header_bytes h n → ⊥
short_count h n p short is = omega (arith, short, ap length is, length_based h n)

-- what a log begins with is told by the frames in front
pub front_same : (h : Header) (a b : Option Rows) (x y : List (List ℕ)) → IsStart a → IsStart b → front_of h a ++ x ≡ front_of h b ++ y → (a ≡ b) × (x ≡ y)
front_same h None None x y start also same = (refl, tail_same _ _ _ _ same)
front_same h None (Some b) x y start also same = absurd (never_both h (length b) (head_same _ _ _ _ same))
front_same h (Some a) None x y start also same = absurd (never_both h (length a) (sym (head_same _ _ _ _ same)))
front_same h (Some a) (Some b) x y start also same =
    let len : length a ≡ length b = count_back h (length a) (length b) start.count also.count (head_same _ _ _ _ same) in
    let rest = parts_same a b x y start.rows also.rows len (tail_same _ _ _ _ same) in
    (ap Some rest.0, rest.1)
