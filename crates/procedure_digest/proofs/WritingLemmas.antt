-- What is written in parts is the whole.
use Rattle.std.proofs.Common.{arith, ◌≡◌, ℕ, ◌+◌, ◌<◌, List, [], ◌∷◌, ◌++◌, length, get_or, take, drop, refl, sym}
use Rattle.std.proofs.Common.{◌∙◌, ap, subst, append_assoc, length-append, inl, inr}
use Rattle.std.specs.Prelude.{Some, slice_get}
use Rattle.std.proofs.lemmas.Option.{slice_get_within, get_or_from_slice_get}
use Rattle.std.specs.List.{flat_map}
use Rattle.std.specs.Int.{w64, to_le_bytes}
use Rattle.std.proofs.lemmas.Bool.{cases_lt}
use Rattle.std.proofs.lemmas.List.{get_or_past, get_or-drop, drop_at, take_more, flat_map_more}
use Rattle.access_slots.specs.Declaration.{Declaration}
use Rattle.access_slots.specs.declared.slot.Slot.{Slot}
use Rattle.bpf_encoding.specs.Spells.{Spells}
use Rattle.verifier.specs.Checked.{Checked}
use Rattle.procedure_digest.specs.Bytes.{mode_number, key_kind, key_number, slot_bytes, decl_bytes, code_bytes, procedure_bytes, procedures_bytes}
use Rattle.procedure_digest.proofs.CodeLemmas.{AreBytes, spelled_once}

more : (old x y a b : List ℕ) → a ≡ old ++ x → b ≡ a ++ y → b ≡ old ++ (x ++ y)
more old x y a b first then = then ∙ (ap (λ (l : List ℕ). l ++ y) first ∙ append_assoc old x y)

long_is : (m n : ℕ) (old new : List ℕ) → m ≡ n → new ≡ old ++ to_le_bytes w64 m → new ≡ old ++ to_le_bytes w64 n
long_is m n old new same is = is ∙ ap (λ (k : ℕ). old ++ to_le_bytes w64 k) same

module _ (s : Slot) (mode kind key : ℕ) (old a b c d new : List ℕ) where
  pub slot_written : mode ≡ mode_number s.mode → kind ≡ key_kind s.key → key ≡ key_number s.key → a ≡ old ++ to_le_bytes w64 mode
      → b ≡ a ++ to_le_bytes w64 s.dc → c ≡ b ++ to_le_bytes w64 s.table → d ≡ c ++ to_le_bytes w64 kind → new ≡ d ++ to_le_bytes w64 key
      → new ≡ old ++ slot_bytes s
  unfolding slot_bytes
  slot_written mode_is kind_is key_is first second third fourth fifth =
      more old _ (to_le_bytes w64 (key_number s.key)) d new
      (more old _ (to_le_bytes w64 (key_kind s.key)) c d
      (more old _ (to_le_bytes w64 s.table) b c
      (more old (to_le_bytes w64 (mode_number s.mode)) (to_le_bytes w64 s.dc) a b (long_is mode (mode_number s.mode) old a mode_is first) second) third)
      (long_is kind (key_kind s.key) c d kind_is fourth)) (long_is key (key_number s.key) d new key_is fifth)

pub decl_written : (decl : Declaration) (args count : ℕ) (slots : List Slot) (old a b new : List ℕ) → args ≡ decl.args → slots ≡ decl.slots → count ≡ length slots
    → a ≡ old ++ to_le_bytes w64 args → b ≡ a ++ to_le_bytes w64 count → new ≡ b ++ flat_map slot_bytes slots → new ≡ old ++ decl_bytes decl
unfolding decl_bytes
decl_written decl args count slots old a b new args_are slots_are count_is first second third =
    more old (to_le_bytes w64 decl.args ++ to_le_bytes w64 (length decl.slots)) (flat_map slot_bytes decl.slots) b new
    (more old (to_le_bytes w64 decl.args) (to_le_bytes w64 (length decl.slots)) a b (long_is args decl.args old a args_are first)
    (long_is count (length decl.slots) a b (count_is ∙ ap (λ (l : List Slot). length l) slots_are) second))
    (third ∙ ap (λ (l : List Slot). b ++ flat_map slot_bytes l) slots_are)

-- each item is a byte, as a slice's are
abbrev pub FitBytes : List ℕ → Type 0
FitBytes bs = (i d : ℕ) → i < length bs → get_or bs i d < 256

are_bytes : (bs : List ℕ) → FitBytes bs → AreBytes bs
are_bytes bs fit i =
    elim (cases_lt i (length bs)) [
      | inl below ↦ fit i 0 below
      | inr above ↦ subst (λ (b : ℕ). b < 256) (sym (get_or_past bs i 0 above)) (omega arith)
    ]

-- the last bytes of what fits
last_fit : (front last all : List ℕ) → FitBytes all → all ≡ front ++ last → FitBytes last
last_fit front last all fit is i d below =
    let tail : drop (length front) all ≡ last = ap (λ (l : List ℕ). drop (length front) l) is ∙ drop_at front last (length front) refl in
    let long : length all ≡ length front + length last = ap (λ (l : List ℕ). length l) is ∙ length-append front last in
    let here : get_or all (length front + i) d ≡ get_or last i d = sym (get_or-drop (length front) all i d) ∙ ap (λ (l : List ℕ). get_or l i d) tail in
    subst (λ (b : ℕ). b < 256) here (fit (length front + i) d (omega (arith, long, below)))

pub procedure_written : (p : Checked) (code : List ℕ) (count : ℕ) (old a b new : List ℕ) → FitBytes new → Spells code p.code → count ≡ length code
    → a ≡ old ++ decl_bytes p.decl → b ≡ a ++ to_le_bytes w64 count → new ≡ b ++ code → new ≡ old ++ procedure_bytes p
unfolding procedure_bytes
procedure_written p code count old a b new fit spells count_is first second third =
    let once : code ≡ code_bytes p.code = spelled_once code p.code (are_bytes code (last_fit b code new fit third)) spells in
    more old (decl_bytes p.decl ++ to_le_bytes w64 (length (code_bytes p.code))) (code_bytes p.code) b new
    (more old (decl_bytes p.decl) (to_le_bytes w64 (length (code_bytes p.code))) a b first
    (long_is count (length (code_bytes p.code)) a b (count_is ∙ ap (λ (l : List ℕ). length l) once) second))
    (third ∙ ap (λ (l : List ℕ). b ++ l) once)

-- ---- procedures one behind another

pub procedures_more : (ps : List Checked) (number : ℕ) (p : Checked) (old new : List ℕ) → slice_get ps number ≡ Some p
    → old ≡ procedures_bytes (take number ps) → new ≡ old ++ procedure_bytes p → new ≡ procedures_bytes (take (number + 1) ps)
procedures_more ps number p old new at so_far grown =
    let more : take number ps ++ p ∷ [] ≡ take (number + 1) ps
    = sym (take_more ps number p (slice_get_within ps number p at) ∙ ap (λ (q : Checked). take number ps ++ q ∷ []) (get_or_from_slice_get ps number p p at)) in
    grown ∙ (ap (λ (l : List ℕ). l ++ procedure_bytes p) so_far ∙ (flat_map_more procedure_bytes [] (take number ps) p ∙ ap procedures_bytes more))
