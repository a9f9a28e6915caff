-- Records in order.
use Rattle.std.proofs.Common.{arith, sym, refl, subst, ap₂, ◌≡◌, ◌∙◌, ℕ, Bool, true, false, ◌&&◌}
use Rattle.std.specs.Prelude.{◌==◌}
use Rattle.std.specs.Bool.{Decides}
use Rattle.std.proofs.lemmas.Bool.{eqb-true}
use Rattle.std.proofs.lemmas.Bool.Decides.{nat_tests}
use Rattle.access_slots.specs.declared.slot.Record.{Record}
use Rattle.access_slots.specs.declared.slot.Mode.{Mode}
use Rattle.access_slots.specs.declared.slot.Mode.TheVariants as mode
use Rattle.access_slots.specs.declared.lock.Lock.{Lock}
use Rattle.access_slots.specs.Locks.{record_eq, record_less}

pub eq_same : (a : Record) → record_eq a a ≡ true
eq_same a = grind (arith, nat_tests)

pub eq_sym : (a b : Record) → record_eq a b ≡ true → record_eq b a ≡ true
eq_sym a b h = grind (arith, nat_tests)

pub eq_trans : (a b c : Record) → record_eq a b ≡ true → record_eq b c ≡ true → record_eq a c ≡ true
eq_trans a b c h g = grind (arith, nat_tests)

pub less_not_eq : (a b : Record) → record_less a b ≡ true → record_eq a b ≡ false
less_not_eq a b h = grind (arith, nat_tests)

pub less_trans : (a b c : Record) → record_less a b ≡ true → record_less b c ≡ true → record_less a c ≡ true
less_trans a b c h g = grind (arith, nat_tests)

pub less_else : (a b : Record) → record_less a b ≡ false → record_eq a b ≡ false → record_less b a ≡ true
less_else a b h g = grind (arith, nat_tests)

pub eq_turned : (a b : Record) → record_eq a b ≡ record_eq b a
eq_turned a b = same (record_eq a b) (record_eq b a) (eq_sym a b) (eq_sym b a)
  where
    same : (x y : Bool) → (x ≡ true → y ≡ true) → (y ≡ true → x ≡ true) → x ≡ y
    same true y f g = sym (f refl)
    same false true f g = g refl
    same false false f g = refl

pub eq_apart : (a b c : Record) → record_eq a b ≡ true → record_eq b c ≡ false → record_eq a c ≡ false
eq_apart a b c h g = grind (arith, nat_tests)

pub eq_swap : (d a b : Record) → record_eq a b ≡ true → record_eq d b ≡ record_eq d a
eq_swap d a b h = both (record_eq d b) (record_eq d a) (λ e. eq_trans d b a e (eq_sym a b h)) (λ e. eq_trans d a b e h)
  where
    both : (x y : Bool) → (x ≡ true → y ≡ true) → (y ≡ true → x ≡ true) → x ≡ y
    both true y f g = sym (f refl)
    both false true f g = g refl
    both false false f g = refl

-- ---- equal by a test, and equal

abbrev pub record_at : ℕ → ℕ → ℕ → Record
record_at dc table key = record { dc = dc; table = table; key = key }

same_parts : (d e t u k l : ℕ) → d ≡ e → t ≡ u → k ≡ l → record_at d t k ≡ record_at e u l
same_parts d e t u k l p q r = cc

all_three : (x y z : Bool) → (x && (y && z)) ≡ true → (x ≡ true) × ((y ≡ true) × (z ≡ true))
all_three true true true h = (refl, (refl, refl))
all_three true true false h = absurd (let bad : false ≡ true = h in cc)
all_three true false z h = absurd (let bad : false ≡ true = h in cc)
all_three false y z h = absurd (let bad : false ≡ true = h in cc)

pub eq_is : (a b : Record) → record_eq a b ≡ true → a ≡ b
eq_is a b h =
    let parts = all_three (a.dc == b.dc) (a.table == b.table) (a.key == b.key) h in
    same_parts a.dc b.dc a.table b.table a.key b.key (eqb-true a.dc b.dc parts.0) (eqb-true a.table b.table parts.1.0) (eqb-true a.key b.key parts.1.1)

-- a test of modes that says whether they are one, for each two of them
abbrev pub IsModeTest : (Mode → Mode → Bool) → Type 0
IsModeTest test = (test mode.Read mode.Read ≡ true) × (test mode.Read mode.Write ≡ false)
    × (test mode.Write mode.Read ≡ false) × (test mode.Write mode.Write ≡ true)

mode_is : (test : Mode → Mode → Bool) → IsModeTest test → (a b : Mode) → test a b ≡ true → a ≡ b
mode_is test tells mode.Read mode.Read h = refl
mode_is test tells mode.Read mode.Write h = absurd (let bad : false ≡ true = sym tells.1 ∙ h in cc)
mode_is test tells mode.Write mode.Read h = absurd (let bad : false ≡ true = sym tells.2 ∙ h in cc)
mode_is test tells mode.Write mode.Write h = refl

mode_same : (test : Mode → Mode → Bool) → IsModeTest test → (a : Mode) → test a a ≡ true
mode_same test tells mode.Read = tells.0
mode_same test tells mode.Write = tells.3

abbrev pub lock_eq : (Mode → Mode → Bool) → Lock → Lock → Bool
lock_eq test a b = record_eq a.«record» b.«record» && test a.mode b.mode

abbrev pub lock_at : Record → Mode → Lock
lock_at r m = record { «record» = r; mode = m }

both : (x y : Bool) → (x && y) ≡ true → (x ≡ true) × (y ≡ true)
both true true h = (refl, refl)
both true false h = absurd (let bad : false ≡ true = h in cc)
both false y h = absurd (let bad : false ≡ true = h in cc)

same_fields : (q r : Record) (m n : Mode) → q ≡ r → m ≡ n → lock_at q m ≡ lock_at r n
same_fields q r m n a b = cc

lock_is : (test : Mode → Mode → Bool) → IsModeTest test → (a b : Lock) → lock_eq test a b ≡ true → a ≡ b
lock_is test tells a b h =
    let parts = both (record_eq a.«record» b.«record») (test a.mode b.mode) h in
    same_fields a.«record» b.«record» a.mode b.mode (eq_is a.«record» b.«record» parts.0) (mode_is test tells a.mode b.mode parts.1)

lock_same : (test : Mode → Mode → Bool) → IsModeTest test → (a : Lock) → lock_eq test a a ≡ true
lock_same test tells a = ap₂ (λ (x y : Bool). x && y) (eq_same a.«record») (mode_same test tells a.mode)

-- the test of records and modes decides whether two locks are one
pub lock_decides : (test : Mode → Mode → Bool) → IsModeTest test → (a b : Lock) → Decides (lock_eq test a b) (a ≡ b)
lock_decides test tells a b = (λ t. lock_is test tells a b t, λ e. subst (λ (x : Lock). lock_eq test a x ≡ true) e (lock_same test tells a))
