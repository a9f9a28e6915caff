-- Bytes of procedures, one behind another, tell them.
use Rattle.std.proofs.Common.{arith, ◌≡◌, ℕ, ◌*◌, ◌<◌, ◌^◌, List, [], ◌∷◌, ◌++◌, length, take, drop}
use Rattle.std.proofs.Common.{refl, sym, ◌∙◌, ap, ap₂, append_assoc, length-append}
use Rattle.std.specs.List.{flat_map}
use Rattle.std.specs.Int.{w64, from_le_bytes, to_le_bytes}
use Rattle.std.proofs.lemmas.List.{take_at, drop_at}
use Rattle.std.proofs.lemmas.Nat.{from_le_bytes-to_le_bytes_8}
use Rattle.access_slots.specs.Declaration.{Declaration}
use Rattle.access_slots.specs.declared.slot.Slot.{Slot}
use Rattle.access_slots.specs.declared.slot.Mode.{Mode}
use Rattle.access_slots.specs.declared.slot.Mode.TheVariants.{Read, Write}
use Rattle.access_slots.specs.declared.slot.Key.{Key}
use Rattle.access_slots.specs.declared.slot.Key.TheVariants.{Arg, Fixed}
use Rattle.bpf_encoding.specs.declared.insn.Place.{Place}
use Rattle.verifier.specs.Checked.{Checked}
use Rattle.procedure_digest.specs.Bytes.{mode_number, key_kind, key_number, slot_bytes, decl_bytes, code_bytes, procedure_bytes, procedures_bytes}
use Rattle.procedure_digest.specs.Bytes.{IsSlot, AreSlots, IsInRange, AreInRange}
use Rattle.procedure_digest.proofs.CodeLemmas.{code_same}

-- ---- equal bytes are cut into equal parts

long_front : (a b : ℕ) (x y : List ℕ) → a < 2 ^ 64 → b < 2 ^ 64 → to_le_bytes w64 a ++ x ≡ to_le_bytes w64 b ++ y → a ≡ b
long_front a b x y small little same =
    sym (from_le_bytes-to_le_bytes_8 a small) ∙ (ap (λ (l : List ℕ). from_le_bytes w64 (take 8 l)) same ∙ from_le_bytes-to_le_bytes_8 b little)

long_back : (a b : ℕ) (x y : List ℕ) → to_le_bytes w64 a ++ x ≡ to_le_bytes w64 b ++ y → x ≡ y
long_back a b x y same = ap (λ (l : List ℕ). drop 8 l) same

front : (p q x y : List ℕ) → length p ≡ length q → p ++ x ≡ q ++ y → p ≡ q
front p q x y long same = sym (take_at p x (length p) refl) ∙ (ap (λ (l : List ℕ). take (length p) l) same ∙ take_at q y (length p) (sym long))

back : (p q x y : List ℕ) → length p ≡ length q → p ++ x ≡ q ++ y → x ≡ y
back p q x y long same = sym (drop_at p x (length p) refl) ∙ (ap (λ (l : List ℕ). drop (length p) l) same ∙ drop_at q y (length p) (sym long))

-- ---- a slot

mode_same : (m n : Mode) → mode_number m ≡ mode_number n → m ≡ n
mode_same Read Read e = refl
mode_same Read Write e = absurd (omega (arith, e))
mode_same Write Read e = absurd (omega (arith, e))
mode_same Write Write e = refl

key_same : (k l : Key) → key_kind k ≡ key_kind l → key_number k ≡ key_number l → k ≡ l
key_same (Arg n) (Arg m) e f = ap Arg f
key_same (Arg n) (Fixed m) e f = absurd (omega (arith, e))
key_same (Fixed n) (Arg m) e f = absurd (omega (arith, e))
key_same (Fixed n) (Fixed m) e f = ap Fixed f

mode_small : (m : Mode) → mode_number m < 2 ^ 64
mode_small Read = omega arith
mode_small Write = omega arith

kind_small : (k : Key) → key_kind k < 2 ^ 64
kind_small (Arg n) = omega arith
kind_small (Fixed n) = omega arith

length_slot : (s : Slot) → length (slot_bytes s) ≡ 40
unfolding slot_bytes
length_slot s = refl

number_at : ℕ → List ℕ → ℕ
number_at n bytes = from_le_bytes w64 (take 8 (drop n bytes))

mode_back : (s : Slot) → number_at 0 (slot_bytes s) ≡ mode_number s.mode
unfolding slot_bytes number_at
mode_back s = from_le_bytes-to_le_bytes_8 (mode_number s.mode) (mode_small s.mode)

dc_back : (s : Slot) → IsSlot s → number_at 8 (slot_bytes s) ≡ s.dc
unfolding slot_bytes number_at
dc_back s is = from_le_bytes-to_le_bytes_8 s.dc is.dc

table_back : (s : Slot) → IsSlot s → number_at 16 (slot_bytes s) ≡ s.table
unfolding slot_bytes number_at
table_back s is = from_le_bytes-to_le_bytes_8 s.table is.table

kind_back : (s : Slot) → number_at 24 (slot_bytes s) ≡ key_kind s.key
unfolding slot_bytes number_at
kind_back s = from_le_bytes-to_le_bytes_8 (key_kind s.key) (kind_small s.key)

key_back : (s : Slot) → IsSlot s → number_at 32 (slot_bytes s) ≡ key_number s.key
unfolding slot_bytes number_at
key_back s is = from_le_bytes-to_le_bytes_8 (key_number s.key) is.key

abbrev slot_at : Mode → ℕ → ℕ → Key → Slot
slot_at m d t k = record { mode = m; dc = d; table = t; key = k }

same_parts : (m n : Mode) (d e t u : ℕ) (k l : Key) → m ≡ n → d ≡ e → t ≡ u → k ≡ l → slot_at m d t k ≡ slot_at n e u l
same_parts m n d e t u k l a b c f = cc

slot_same : (s t : Slot) → IsSlot s → IsSlot t → slot_bytes s ≡ slot_bytes t → s ≡ t
slot_same s t x y same =
    same_parts s.mode t.mode s.dc t.dc s.table t.table s.key t.key
    (mode_same s.mode t.mode (sym (mode_back s) ∙ (ap (number_at 0) same ∙ mode_back t)))
    (sym (dc_back s x) ∙ (ap (number_at 8) same ∙ dc_back t y))
    (sym (table_back s x) ∙ (ap (number_at 16) same ∙ table_back t y))
    (key_same s.key t.key (sym (kind_back s) ∙ (ap (number_at 24) same ∙ kind_back t)) (sym (key_back s x) ∙ (ap (number_at 32) same ∙ key_back t y)))

-- ---- slots

length_slots : (slots : List Slot) → length (flat_map slot_bytes slots) ≡ 40 * length slots
length_slots [] = refl
length_slots (s ∷ slots) = omega (arith, length-append (slot_bytes s) (flat_map slot_bytes slots), length_slot s, length_slots slots)

slots_same : (a b : List Slot) → AreSlots a → AreSlots b → length a ≡ length b → flat_map slot_bytes a ≡ flat_map slot_bytes b → a ≡ b
slots_same [] [] x y long same = refl
slots_same [] (t ∷ b) x y long same = absurd (omega (arith, long))
slots_same (s ∷ a) [] x y long same = absurd (omega (arith, long))
slots_same (s ∷ a) (t ∷ b) x y long same =
    let even : length (slot_bytes s) ≡ length (slot_bytes t) = length_slot s ∙ sym (length_slot t) in
    let rest = back (slot_bytes s) (slot_bytes t) (flat_map slot_bytes a) (flat_map slot_bytes b) even same in
    ap₂ (λ (r : Slot) (rs : List Slot). r ∷ rs)
    (slot_same s t x.0 y.0 (front (slot_bytes s) (slot_bytes t) (flat_map slot_bytes a) (flat_map slot_bytes b) even same))
    (slots_same a b x.1 y.1 (omega (arith, long)) rest)

-- ---- a procedure

-- what stands behind the number of slots
abbrev behind : Checked → List ℕ → List ℕ
behind p x = to_le_bytes w64 (length (code_bytes p.code)) ++ (code_bytes p.code ++ x)

opened : (p : Checked) (x : List ℕ)
    → procedure_bytes p ++ x ≡ to_le_bytes w64 p.decl.args ++ (to_le_bytes w64 (length p.decl.slots) ++ (flat_map slot_bytes p.decl.slots ++ behind p x))
unfolding procedure_bytes decl_bytes
opened p x =
    let slots = flat_map slot_bytes p.decl.slots in
    let code = code_bytes p.code in
    let long = to_le_bytes w64 (length code) in
    ap (λ (l : List ℕ). to_le_bytes w64 p.decl.args ++ (to_le_bytes w64 (length p.decl.slots) ++ l))
    (append_assoc (slots ++ long) code x ∙ append_assoc slots long (code ++ x))

code_small : (p : Checked) → IsInRange p → length (code_bytes p.code) < 2 ^ 64
code_small p is = omega (arith, is.spelled.long, is.spelled.code.short)

abbrev declared : ℕ → List Slot → Declaration
declared args slots = record { args = args; slots = slots }

abbrev checked : List Place → Declaration → Checked
checked code decl = record { code = code; decl = decl }

procedure_same : (p q : Checked) (x y : List ℕ) → IsInRange p → IsInRange q → procedure_bytes p ++ x ≡ procedure_bytes q ++ y → (p ≡ q) × (x ≡ y)
procedure_same p q x y in_p in_q same =
    let whole = sym (opened p x) ∙ (same ∙ opened q y) in
    let args_are : p.decl.args ≡ q.decl.args = long_front p.decl.args q.decl.args _ _ in_p.args in_q.args whole in
    let after_args = long_back p.decl.args q.decl.args _ _ whole in
    let count_is : length p.decl.slots ≡ length q.decl.slots = long_front (length p.decl.slots) (length q.decl.slots) _ _ in_p.count in_q.count after_args in
    let after_count = long_back (length p.decl.slots) (length q.decl.slots) _ _ after_args in
    let ps = flat_map slot_bytes p.decl.slots in
    let qs = flat_map slot_bytes q.decl.slots in
    let even : length ps ≡ length qs = omega (arith, length_slots p.decl.slots, length_slots q.decl.slots, count_is) in
    let slots_are : p.decl.slots ≡ q.decl.slots = slots_same p.decl.slots q.decl.slots in_p.slots in_q.slots count_is (front ps qs (behind p x) (behind q y) even after_count) in
    let after_slots = back ps qs (behind p x) (behind q y) even after_count in
    let long = long_front (length (code_bytes p.code)) (length (code_bytes q.code)) _ _ (code_small p in_p) (code_small q in_q) after_slots in
    let after_long = long_back (length (code_bytes p.code)) (length (code_bytes q.code)) _ _ after_slots in
    let code_is : p.code ≡ q.code
    = code_same p.code q.code in_p.spelled in_q.spelled in_p.wide in_q.wide (front (code_bytes p.code) (code_bytes q.code) x y long after_long) in
    (ap₂ checked code_is (ap₂ declared args_are slots_are), back (code_bytes p.code) (code_bytes q.code) x y long after_long)

-- ---- all of them

something : (p : Checked) (x : List ℕ) → [] ≡ procedure_bytes p ++ x → ⊥
something p x same =
    let whole = ap (λ (l : List ℕ). length l) (same ∙ opened p x) in
    let rest = to_le_bytes w64 (length p.decl.slots) ++ (flat_map slot_bytes p.decl.slots ++ behind p x) in
    omega (arith, whole, length-append (to_le_bytes w64 p.decl.args) rest)

pub procedures_same : (ps qs : List Checked) → AreInRange ps → AreInRange qs → procedures_bytes ps ≡ procedures_bytes qs → ps ≡ qs
procedures_same [] [] x y same = refl
procedures_same [] (q ∷ qs) x y same = absurd (something q (procedures_bytes qs) same)
procedures_same (p ∷ ps) [] x y same = absurd (something p (procedures_bytes ps) (sym same))
procedures_same (p ∷ ps) (q ∷ qs) x y same =
    let both = procedure_same p q (procedures_bytes ps) (procedures_bytes qs) x.0 y.0 same in
    ap₂ (λ (r : Checked) (rs : List Checked). r ∷ rs) both.0 (procedures_same ps qs x.1 y.1 both.1)
