-- Locks put in, one after another.
use Rattle.std.proofs.Common.{arith, ◌≡◌, ℕ, zero, suc, nat_lt, ◌+◌, ◌<◌, ◌≤◌, Bool, true, false, if◌then◌else◌, List}
use Rattle.std.proofs.Common.{[], ◌∷◌, ◌++◌, length, sym, refl, ap, ap₂, ◌∙◌, one-add}
use Rattle.std.specs.Prelude.{Option, Some, None, slice_get, slice_index_or}
use Rattle.std.specs.List.{prefix_len, insert}
use Rattle.std.proofs.lemmas.Bool.{cond-true, cond-false, ltb-false}
use Rattle.access_slots.specs.declared.slot.Record.{Record}
use Rattle.access_slots.specs.declared.slot.Mode.{Mode}
use Rattle.access_slots.specs.declared.slot.Mode.TheVariants as mode
use Rattle.access_slots.specs.declared.slot.Slot.{Slot}
use Rattle.access_slots.specs.declared.lock.Lock.{Lock}
use Rattle.access_slots.specs.Access.{record_of}
use Rattle.access_slots.specs.Joining.Adding.{added, lock, locked_at, raised, raised_by}
use Rattle.access_slots.specs.Locks.{record_eq, record_less, greater, greatest, mode_named, mode_in, RisingFrom, Rising, AreLocksOf}
use Rattle.access_slots.specs.Declaration.{decl_fault, first_bad, names_argument}
use Rattle.access_slots.specs.declared.decl.DeclFault.{DeclFault}
use Rattle.access_slots.specs.declared.decl.DeclFault.TheVariants.{TooManyArgs, TooManySlots, NoSuchArg}
use Rattle.access_slots.proofs.Records.{eq_same, less_not_eq, less_trans, less_else, eq_turned, eq_apart, eq_swap}

-- ---- where a lock is put

abbrev pub before : Record → Lock → Bool
before r l = record_less l.«record» r

abbrev pub put_at : Record → Mode → List Lock → ℕ → List Lock
put_at r m locks place = if locked_at (slice_get locks place) r then raised locks place m else insert locks place (lock r m)

raised_further : (o : Option Lock) (l : Lock) (locks : List Lock) (place : ℕ) (m : Mode)
    → raised_by o (l ∷ locks) (suc place) m ≡ l ∷ raised_by o locks place m
raised_further None l locks place m = refl
raised_further (Some x) l locks place m = refl

further : (b : Bool) (l : Lock) (x y : List Lock) → (if b then l ∷ x else l ∷ y) ≡ l ∷ (if b then x else y)
further true l x y = refl
further false l x y = refl

put_further : (r : Record) (m : Mode) (l : Lock) (locks : List Lock) (place : ℕ) → put_at r m (l ∷ locks) (suc place) ≡ l ∷ put_at r m locks place
put_further r m l locks place =
    ap (λ (x : List Lock). if locked_at (slice_get locks place) r then x else l ∷ insert locks place (lock r m)) (raised_further (slice_get locks place) l locks place m)
    ∙ further (locked_at (slice_get locks place) r) l (raised locks place m) (insert locks place (lock r m))

by_order : (b : Bool) (r : Record) (m : Mode) (l : Lock) (locks : List Lock) → before r l ≡ b
    → added r m locks ≡ put_at r m locks (prefix_len (before r) locks)
    → added r m (l ∷ locks) ≡ put_at r m (l ∷ locks) (prefix_len (before r) (l ∷ locks))
by_order true r m l locks is later =
    cond-true _ _ _ is
    ∙ ap (λ (ls : List Lock). l ∷ ls) later
    ∙ sym (put_further r m l locks (prefix_len (before r) locks))
    ∙ ap (put_at r m (l ∷ locks)) (sym (cond-true _ _ _ is ∙ one-add (prefix_len (before r) locks)))
by_order false r m l locks is later =
    cond-false _ _ _ is ∙ ap (put_at r m (l ∷ locks)) (sym (cond-false _ _ _ is))

pub added_at : (r : Record) (m : Mode) (locks : List Lock) → added r m locks ≡ put_at r m locks (prefix_len (before r) locks)
added_at r m [] = refl
added_at r m (l ∷ locks) = by_order (before r l) r m l locks refl (added_at r m locks)

-- ---- they still rise

rising_choice : (b e : Bool) (a r : Record) (m : Mode) (l : Lock) (locks rest : List Lock) → before r l ≡ b
    → record_eq l.«record» r ≡ e → record_less a r ≡ true → RisingFrom a (l ∷ locks)
    → (before r l ≡ true → RisingFrom l.«record» rest)
    → RisingFrom a (if b then l ∷ rest else if e then lock l.«record» (greater l.mode m) ∷ locks else lock r m ∷ l ∷ locks)
rising_choice true e a r m l locks rest less eq above h later = (h.0, later less)
rising_choice false true a r m l locks rest less eq above h later = h
rising_choice false false a r m l locks rest less eq above h later = (above, (less_else l.«record» r less eq, h.1))

rising_above : (a r : Record) (m : Mode) (locks : List Lock) → record_less a r ≡ true → RisingFrom a locks → RisingFrom a (added r m locks)
rising_above a r m [] above h = (above, tt)
rising_above a r m (l ∷ locks) above h = rising_choice (before r l) (record_eq l.«record» r) a r m l locks (added r m
    locks) refl refl above h (λ less. rising_above l.«record» r m locks less h.1)

first_choice : (b e : Bool) (r : Record) (m : Mode) (l : Lock) (locks rest : List Lock) → before r l ≡ b
    → record_eq l.«record» r ≡ e → Rising (l ∷ locks) → (before r l ≡ true → RisingFrom l.«record» rest)
    → Rising (if b then l ∷ rest else if e then lock l.«record» (greater l.mode m) ∷ locks else lock r m ∷ l ∷ locks)
first_choice true e r m l locks rest less eq h later = later less
first_choice false true r m l locks rest less eq h later = h
first_choice false false r m l locks rest less eq h later = (less_else l.«record» r less eq, h)

pub rising_added : (r : Record) (m : Mode) (locks : List Lock) → Rising locks → Rising (added r m locks)
rising_added r m [] h = tt
rising_added r m (l ∷ locks) h = first_choice (before r l) (record_eq l.«record» r) r m l locks (added r m locks) refl refl h (λ less. rising_above l.«record» r m locks less h)

-- ---- how many there are

count_choice : (b e : Bool) (r : Record) (m : Mode) (l : Lock) (locks rest : List Lock) → length rest ≤ length locks + 1
    → length (if b then l ∷ rest else if e then lock l.«record» (greater l.mode m) ∷ locks else lock r m ∷ l ∷ locks) ≤ length (l ∷ locks) + 1
count_choice true e r m l locks rest few = omega (arith, few)
count_choice false true r m l locks rest few = omega arith
count_choice false false r m l locks rest few = omega arith

pub one_more : (r : Record) (m : Mode) (locks : List Lock) → length (added r m locks) ≤ length locks + 1
one_more r m [] = omega arith
one_more r m (l ∷ locks) = count_choice (before r l) (record_eq l.«record» r) r m l locks (added r m locks) (one_more r m locks)

-- ---- the mode in which a record is locked

abbrev pub after : Option Mode → Mode → Mode
after None m = m
after (Some n) m = greater n m

pub rising_lower : (a b : Record) (locks : List Lock) → record_less a b ≡ true → RisingFrom b locks → RisingFrom a locks
rising_lower a b [] less h = tt
rising_lower a b (l ∷ locks) less h = (less_trans a b l.«record» less h.0, h.1)

pub none_above : (r : Record) (locks : List Lock) → RisingFrom r locks → mode_in locks r ≡ None
none_above r [] h = refl
none_above r (l ∷ locks) h =
    cond-false _ _ _ (eq_turned l.«record» r ∙ less_not_eq r l.«record» h.0) ∙ none_above r locks (rising_lower r l.«record» locks h.0 h.1)

same_choice : (b e : Bool) (r : Record) (m : Mode) (l : Lock) (locks rest : List Lock) → before r l ≡ b
    → record_eq l.«record» r ≡ e → Rising (l ∷ locks) → mode_in rest r ≡ Some (after (mode_in locks r) m)
    → mode_in (if b then l ∷ rest else if e then lock l.«record» (greater l.mode m) ∷ locks else lock r m ∷ l ∷ locks) r ≡ Some (after (mode_in (l ∷ locks) r) m)
same_choice true e r m l locks rest less eq h later =
    let apart = less_not_eq l.«record» r less in
    cond-false _ _ _ apart ∙ later ∙ ap (λ (o : Option Mode). Some (after o m)) (sym (cond-false _ _ _ apart))
same_choice false true r m l locks rest less eq h later = cond-true _ _ _ eq ∙ ap (λ (o : Option Mode). Some (after o m)) (sym (cond-true _ _ _ eq))
same_choice false false r m l locks rest less eq h later =
    let gone = none_above r (l ∷ locks) (less_else l.«record» r less eq, h) in
    cond-true _ _ _ (eq_same r) ∙ ap (λ (o : Option Mode). Some (after o m)) (sym gone)

pub rising_rest : (l : Lock) (locks : List Lock) → RisingFrom l.«record» locks → Rising locks
rising_rest l [] h = tt
rising_rest l (k ∷ locks) h = h.1

pub mode_same : (r : Record) (m : Mode) (locks : List Lock) → Rising locks → mode_in (added r m locks) r ≡ Some (after (mode_in locks r) m)
mode_same r m [] h = cond-true _ _ _ (eq_same r)
mode_same r m (l ∷ locks) h = same_choice (before r l) (record_eq l.«record» r) r m l locks (added r m locks) refl refl h (mode_same r m locks (rising_rest l locks h))

other_choice : (b e : Bool) (r q : Record) (m : Mode) (l : Lock) (locks rest : List Lock) → record_eq l.«record» r ≡ e
    → record_eq r q ≡ false → mode_in rest q ≡ mode_in locks q
    → mode_in (if b then l ∷ rest else if e then lock l.«record» (greater l.mode m) ∷ locks else lock r m ∷ l ∷ locks) q ≡ mode_in (l ∷ locks) q
other_choice true e r q m l locks rest eq apart later = ap (λ (o : Option Mode). if record_eq l.«record» q then Some l.mode else o) later
other_choice false true r q m l locks rest eq apart later =
    let skip = eq_apart l.«record» r q eq apart in
    cond-false _ _ _ skip ∙ sym (cond-false _ _ _ skip)
other_choice false false r q m l locks rest eq apart later = cond-false _ _ _ apart

pub mode_other : (r q : Record) (m : Mode) (locks : List Lock) → record_eq r q ≡ false → mode_in (added r m locks) q ≡ mode_in locks q
mode_other r q m [] apart = cond-false _ _ _ apart
mode_other r q m (l ∷ locks) apart = other_choice (before r l) (record_eq l.«record» r) r q m l locks (added r m locks) refl apart (mode_other r q m locks apart)

-- ---- the locks of slots

greater_twice : (a b d : Mode) → greater a (greater b d) ≡ greater (greater a b) d
greater_twice mode.Read b d = refl
greater_twice mode.Write b d = refl

greatest_after : (m : Mode) (o : Option Mode) (n : Mode) → greatest m (Some (after o n)) ≡ greater (greatest m o) n
greatest_after m None n = refl
greatest_after m (Some k) n = greater_twice m k n

-- what one slot more makes of a record's mode
abbrev more_named : Bool → Option Mode → Mode → Option Mode
more_named true o m = Some (after o m)
more_named false o m = o

read_last : (m : Mode) → greatest m None ≡ m
read_last m = refl

named_step : (e f : Bool) (m n : Mode) (o : Option Mode)
    → (if e then Some (greatest m (more_named f o n)) else more_named f o n) ≡ more_named f (if e then Some (greatest m o) else o) n
named_step true true m n o = ap Some (greatest_after m o n)
named_step true false m n o = refl
named_step false true m n o = refl
named_step false false m n o = refl

named_more : (args : List ℕ) (slots : List Slot) (s : Slot) (q : Record)
    → mode_named args (slots ++ s ∷ []) q ≡ more_named (record_eq (record_of args s) q) (mode_named args slots q) s.mode
named_more args [] s q = first (record_eq (record_of args s) q)
  where
    first : (e : Bool) → (if e then Some (greatest s.mode None) else None) ≡ more_named e None s.mode
    first true = refl
    first false = refl
named_more args (t ∷ slots) s q =
    ap (λ (o : Option Mode). if record_eq (record_of args t) q then Some (greatest t.mode o) else o) (named_more args slots s q)
    ∙ named_step (record_eq (record_of args t) q) (record_eq (record_of args s) q) t.mode s.mode (mode_named args slots q)

mode_added : (e : Bool) (r q : Record) (m : Mode) (locks : List Lock) → record_eq r q ≡ e → Rising locks
    → mode_in (added r m locks) q ≡ more_named e (mode_in locks q) m
mode_added false r q m locks is h = mode_other r q m locks is
mode_added true r q m locks is h = same_named r q m locks is h
  where
    -- records that are equal are found alike
    alike : (ls : List Lock) (a b : Record) → record_eq a b ≡ true → mode_in ls b ≡ mode_in ls a
    alike [] a b eq = refl
    alike (l ∷ ls) a b eq = ap₂ (λ (x : Bool) (o : Option Mode). if x then Some l.mode else o) (eq_swap l.«record» a b eq) (alike ls a b eq)

    same_named : (a b : Record) (n : Mode) (ls : List Lock) → record_eq a b ≡ true → Rising ls
        → mode_in (added a n ls) b ≡ Some (after (mode_in ls b) n)
    same_named a b n ls eq rises = alike (added a n ls) a b eq ∙ mode_same a n ls rises ∙ ap (λ (o : Option Mode). Some (after o n)) (sym (alike ls a b eq))

pub locks_more : (args : List ℕ) (slots : List Slot) (s : Slot) (locks : List Lock) → AreLocksOf args slots locks
    → Rising locks → AreLocksOf args (slots ++ s ∷ []) (added (record_of args s) s.mode locks)
locks_more args slots s locks are h = λ q.
    mode_added (record_eq (record_of args s) q) (record_of args s) q s.mode locks refl h
    ∙ ap (λ (o : Option Mode). more_named (record_eq (record_of args s) q) o s.mode) (are q)
    ∙ sym (named_more args slots s q)

-- ---- what was put in

pub raised_is_added : (r : Record) (m : Mode) (locks : List Lock) (place : ℕ) (new : List Lock)
    → place ≡ prefix_len (before r) locks → true ≡ locked_at (slice_get locks place) r → new ≡ raised locks place m
    → new ≡ added r m locks
raised_is_added r m locks place new at is h =
    h ∙ sym (added_at r m locks ∙ ap (put_at r m locks) (sym at) ∙ ap (λ (b : Bool). if b then raised locks place m else insert locks place (lock r m)) (sym is))

pub inserted_is_added : (r : Record) (m : Mode) (locks : List Lock) (place : ℕ) (new : List Lock)
    → place ≡ prefix_len (before r) locks → false ≡ locked_at (slice_get locks place) r
    → new ≡ insert locks place (lock r m) → new ≡ added r m locks
inserted_is_added r m locks place new at is h =
    h ∙ sym (added_at r m locks ∙ ap (put_at r m locks) (sym at) ∙ ap (λ (b : Bool). if b then raised locks place m else insert locks place (lock r m)) (sym is))

-- ---- a declaration's slots

bad_or_later : (b : Bool) (x : DeclFault) (o : Option DeclFault) → (if b then o else Some x) ≡ None → (b ≡ true) × (o ≡ None)
bad_or_later true x o h = (refl, h)
bad_or_later false x o h = absurd (let bad : Some x ≡ None = h in cc)

pub all_named : (args place : ℕ) (slots : List Slot) (k : ℕ) (d : Slot) → first_bad args place slots ≡ None
    → k < length slots → names_argument args (slice_index_or slots k d).key ≡ true
all_named args place [] k d none inside = absurd (omega (arith, inside))
all_named args place (s ∷ slots) zero d none inside = (bad_or_later (names_argument args s.key) (NoSuchArg place) (first_bad args (suc place) slots) none).0
all_named args place (s ∷ slots) (suc k) d none inside =
    all_named args (suc place) slots k d (bad_or_later (names_argument args s.key) (NoSuchArg place) (first_bad args (suc place) slots) none).1 (omega (arith, inside))

no_fault : (a b : Bool) (x y : DeclFault) (o : Option DeclFault) → (if a then Some x else if b then Some y else o) ≡ None → (b ≡ false) × (o ≡ None)
no_fault true b x y o h = absurd (let bad : Some x ≡ None = h in cc)
no_fault false true x y o h = absurd (let bad : Some y ≡ None = h in cc)
no_fault false false x y o h = (refl, h)

pub declared : (args : ℕ) (slots : List Slot) → decl_fault args slots ≡ None → (length slots ≤ 16) × (first_bad args 0 slots ≡ None)
declared args slots none =
    let parts = no_fault (nat_lt 8 args) (nat_lt 16 (length slots)) TooManyArgs TooManySlots (first_bad args 0 slots) none in
    (ltb-false 16 (length slots) parts.0, parts.1)

pub named_with : (n args : ℕ) (slots : List Slot) (k : ℕ) (d : Slot) → n ≡ args → first_bad args 0 slots ≡ None
    → k < length slots → names_argument n (slice_index_or slots k d).key ≡ true
named_with n args slots k d as_many none inside = ap (λ (m : ℕ). names_argument m (slice_index_or slots k d).key) as_many ∙ all_named args 0 slots k d none inside
