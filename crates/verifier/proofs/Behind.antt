-- What the first pass found, and what is known behind an instruction.
use Rattle.std.proofs.Common.{◌≡◌, ℕ, zero, suc, ◌+◌, ◌-◌, ◌<◌, ◌≤◌, Bool, true, false, ◌&&◌, Option, Some, None}
use Rattle.std.proofs.Common.{Result, Ok, Err, List, [], ◌∷◌, length, eqb, cond, leb, refl, sym, ap, ◌∙◌, subst, inl}
use Rattle.std.proofs.Common.{inr, arith}
use Rattle.std.specs.Prelude.{ℤ, pos, ◌+ℤ◌, slice_get}
use Rattle.std.proofs.lemmas.Bool.{eq-eqb, cases_lt}
use Rattle.std.proofs.lemmas.Bool.Decides.{nat_tests}
use Rattle.std.proofs.lemmas.Option.{slice_get-get_or}
use Rattle.access_slots.specs.Declaration.{Declaration}
use Rattle.bpf_encoding.specs.Spelling.{is_wide, is_whole}
use Rattle.bpf_encoding.specs.declared.insn.Insn.{Insn}
use Rattle.bpf_encoding.specs.declared.insn.Insn.TheVariants.{Jump, JumpLong, Exit}
use Rattle.bpf_encoding.specs.declared.insn.Place.{Place}
use Rattle.bpf_encoding.specs.declared.insn.Place.TheVariants as place
use Rattle.semantics.specs.Step.{place_of}
use Rattle.register_kinds.specs.declared.kind.Violation.{Violation}
use Rattle.register_kinds.specs.declared.kind.Violation.TheVariants.{Backward, OutOfCode, IntoWide, FallsOff, EmptyRegister, PointerReturned}
use Rattle.register_kinds.specs.declared.kinds.Kinds.{Kinds}
use Rattle.register_kinds.specs.declared.kinds.Ways.{Ways}
use Rattle.register_kinds.specs.Kinds.{join_kinds, kind_at, is_present, is_plain, check}
use Rattle.register_kinds.specs.Transfer.{transfer_of}
use Rattle.register_kinds.specs.Arriving.{next_place, target_by, jump_place, merge, along, along_ways, along_from, arriving, kinds_at}
use Rattle.register_kinds.specs.Fitting.{IsWeaker, Lands}
use Rattle.register_kinds.proofs.Joins.{weaker_trans, weaker_left, weaker_merge}
use Rattle.verifier.specs.Flow.{is_second_slot, target_flaw, jump_flaw, goes_on, fall_flaw, or_else}

-- ---- what is known of a slot only grows weaker

-- there are kinds, weaker than these
abbrev pub KnownWeaker : Kinds → Option Kinds → Type 0
KnownWeaker ks o = (ls : Kinds) × (o ≡ Some ls) × IsWeaker ks ls

along_weaker : (to : Option ℕ) (after : Option Kinds) (at : ℕ) (ks ls : Kinds) → IsWeaker ks ls → KnownWeaker ks (along to after at (Some ls))
along_weaker None after at ks ls w = (ls, refl, w)
along_weaker (Some to) None at ks ls w = (ls, refl, w)
along_weaker (Some to) (Some after) at ks ls w =
    elim (eqb at to) as (λ b. KnownWeaker ks (cond b (Some (merge (Some ls) after)) (Some ls))) [
      | true ↦ (join_kinds ls after, refl, weaker_trans ks ls (join_kinds ls after) w (weaker_left ls after))
      | false ↦ (ls, refl, w)
    ]

pub known_on : (to : Option ℕ) (after : Option Kinds) (at : ℕ) (ks : Kinds) (o : Option Kinds) → KnownWeaker ks o
    → KnownWeaker ks (along to after at o)
known_on to after at ks o h = subst (λ (p : Option Kinds). KnownWeaker ks (along to after at p)) (sym h.1) (along_weaker to after at ks h.0 h.2)

known_from : (decl : Declaration) (from : ℕ) (p : Option Place) (kinds : Option Kinds) (at : ℕ) (ks : Kinds) (o : Option Kinds)
    → KnownWeaker ks o → KnownWeaker ks (along_from decl from p kinds at o)
known_from decl from None kinds at ks o h = h
known_from decl from (Some place.Second) kinds at ks o h = h
known_from decl from (Some (place.Insn i)) None at ks o h = h
known_from decl from (Some (place.Insn i)) (Some ls) at ks o h =
    elim (transfer_of decl i ls) as (λ r. KnownWeaker ks (along_ways from i r at o)) [
      | Ok ways ↦ known_on (jump_place from i) ways.jump at ks _ (known_on (Some (next_place from i)) ways.next at ks o h)
      | Err v ↦ h
    ]

grown : (decl : Declaration) (code : List Place) (n m at : ℕ) (ks : Kinds) → KnownWeaker ks (arriving decl code n at)
    → KnownWeaker ks (arriving decl code (m + n) at)
grown decl code n zero at ks h = let e : n ≡ 0 + n = omega arith in subst (λ (k : ℕ). KnownWeaker ks (arriving decl code k at)) e h
grown decl code n (suc m) at ks h =
    let e : suc (m + n) ≡ suc m + n = omega arith in
    subst (λ (k : ℕ). KnownWeaker ks (arriving decl code k at)) e
    (known_from decl (m + n) (slice_get code (m + n)) (arriving decl code (m + n) (m + n)) at ks (arriving decl code (m + n) at) (grown decl code n m at ks h))

-- what arrives by the first n slots is known at a later slot
pub known_later : (decl : Declaration) (code : List Place) (n at : ℕ) (ks : Kinds) → n ≤ at
    → KnownWeaker ks (arriving decl code n at) → KnownWeaker ks (kinds_at decl code at)
known_later decl code n at ks le h = let e : at - n + n ≡ at = omega arith in subst (λ (k : ℕ). KnownWeaker ks (arriving decl code k at)) e (grown decl code n (at - n) at ks h)

pub arrives : (to : ℕ) (after : Kinds) (before : Option Kinds) → KnownWeaker after (along (Some to) (Some after) to before)
arrives to after before =
    (merge before after, ap (λ (b : Bool). cond b (Some (merge before after)) before) (eq-eqb to to refl), weaker_merge before after)

-- ---- where an instruction stands

abbrev pub HasInsn : List Place → ℕ → Type 0
HasInsn code at = (i : Insn) × (slice_get code at ≡ Some (place.Insn i))

pub head_insn : (code : List Place) → is_whole false code ≡ true → 0 < length code → HasInsn code 0
head_insn [] whole lt = absurd (omega arith)
head_insn (place.Insn i ∷ code) whole lt = (i, refl)
head_insn (place.Second ∷ code) whole lt = absurd cc

insn_both : (a b : Insn) → Some (place.Insn a) ≡ Some (place.Insn b) → a ≡ b
insn_both a b e = cc

-- behind a wide instruction its second slot stands, and then an instruction
behind_wide : (code : List Place) → is_whole true code ≡ true → 1 < length code → HasInsn code 1
behind_wide [] whole lt = absurd cc
behind_wide (place.Insn i ∷ code) whole lt = absurd cc
behind_wide (place.Second ∷ code) whole lt = head_insn code whole (omega arith)

behind_at : (i : Insn) (w : Bool) (code : List Place) → is_wide i ≡ w → is_whole w code ≡ true
    → next_place 0 i < suc (length code) → HasInsn (place.Insn i ∷ code) (next_place 0 i)
behind_at i true code e whole lt =
    let two : next_place 0 i ≡ 2 = ap (λ (b : Bool). cond b (0 + 2) (0 + 1)) e in
    let h = behind_wide code whole (omega (arith, two)) in
    (h.0, ap (slice_get (place.Insn i ∷ code)) two ∙ h.1)
behind_at i false code e whole lt =
    let one : next_place 0 i ≡ 1 = ap (λ (b : Bool). cond b (0 + 2) (0 + 1)) e in
    let h = head_insn code whole (omega (arith, one)) in
    (h.0, ap (slice_get (place.Insn i ∷ code)) one ∙ h.1)

next_suc : (k : ℕ) (i : Insn) → next_place (suc k) i ≡ suc (next_place k i)
next_suc k i = elim (is_wide i) as (λ b. cond b (suc k + 2) (suc k + 1) ≡ suc (cond b (k + 2) (k + 1))) [ true ↦ omega arith | false ↦ omega arith ]

pub behind : (due : Bool) (code : List Place) (k : ℕ) (i : Insn) → is_whole due code ≡ true
    → slice_get code k ≡ Some (place.Insn i) → next_place k i < length code → HasInsn code (next_place k i)
behind due [] k i whole h lt = absurd cc
behind false (place.Insn j ∷ code) zero i whole h lt =
    let same = insn_both j i h in
    subst (λ (x : Insn). HasInsn (place.Insn x ∷ code) (next_place 0 i)) (sym same)
    (behind_at i (is_wide i) code refl (ap (λ (x : Insn). is_whole (is_wide x) code) (sym same) ∙ whole) lt)
behind true (place.Insn j ∷ code) zero i whole h lt = absurd cc
behind due (place.Second ∷ code) zero i whole h lt = absurd cc
behind false (place.Insn j ∷ code) (suc k) i whole h lt =
    let e = next_suc k i in
    let r = behind (is_wide j) code k i whole h (omega (arith, e)) in
    (r.0, ap (slice_get (place.Insn j ∷ code)) e ∙ r.1)
behind true (place.Insn j ∷ code) (suc k) i whole h lt = absurd cc
behind false (place.Second ∷ code) (suc k) i whole h lt = absurd cc
behind true (place.Second ∷ code) (suc k) i whole h lt =
    let e = next_suc k i in
    let r = behind false code k i whole h (omega (arith, e)) in
    (r.0, ap (slice_get (place.Second ∷ code)) e ∙ r.1)

-- ---- what the first pass found

abbrev pub or_none : Option Violation → Option Violation → Type 0
or_none a b = (a ≡ None) × (b ≡ None)

pub both_none : (a b : Option Violation) → or_else a b ≡ None → or_none a b
both_none None b h = (refl, h)
both_none (Some v) b h = absurd cc

-- a jump leads forward, to an instruction in the code
pub record LeadsOn (code : List Place) (at to : ℕ) : Type 0 where
  pub forward : at < to
  pub insn : HasInsn code to

not_nat_le : (a b : ℕ) (v : Violation) (o : Option Violation) → cond (leb a b) (Some v) o ≡ None → (b < a) × (o ≡ None)
not_nat_le a b v o h = elim (cases_lt b a) [
  | inl lt ↦ (lt, (let f : leb a b ≡ false = grind (arith, nat_tests) in sym (ap (λ (t : Bool). cond t (Some v) o) f) ∙ h))
  | inr le ↦ (let f : leb a b ≡ true = grind (arith, nat_tests) in let bad : Some v ≡ None = sym (ap (λ (t : Bool). cond t (Some v) o) f) ∙ h in absurd cc)
]

slot_insn : (code : List Place) (to : ℕ) (p : Option Place) (v : Violation) → slice_get code to ≡ p → to < length code
    → cond (is_second_slot p) (Some v) None ≡ None → HasInsn code to
slot_insn code to None v e lt h = let some = slice_get-get_or code to place.Second lt in let bad = sym e ∙ some in absurd cc
slot_insn code to (Some (place.Insn i)) v e lt h = (i, e)
slot_insn code to (Some place.Second) v e lt h = absurd cc

leads_on : (code : List Place) (at to : ℕ) → target_flaw code at (Some to) ≡ None → LeadsOn code at to
leads_on code at to h =
    let p = not_nat_le to at Backward _ h in
    let q = not_nat_le (length code) to OutOfCode _ p.1 in
    record { forward = p.0; insn = slot_insn code to (slice_get code to) IntoWide refl q.0 q.1 }

target_some : (code : List Place) (at : ℕ) (target : Option ℕ) → target_flaw code at target ≡ None
    → (to : ℕ) × (target ≡ Some to) × LeadsOn code at to
target_some code at None h = absurd cc
target_some code at (Some to) h = (to, refl, leads_on code at to h)

some_nat : (a b : ℕ) → Some a ≡ Some b → a ≡ b
some_nat a b e = cc

pub lands : (code : List Place) (at : ℕ) (offset : Option ℤ) → jump_flaw code at offset ≡ None → Lands at offset
lands code at None h = tt
lands code at (Some z) h = let t = target_some code at (place_of (pos (at + 1) +ℤ z)) h in (t.0, t.1)

pub jump_leads : (code : List Place) (at to : ℕ) (offset : Option ℤ) → jump_flaw code at offset ≡ None
    → target_by at offset ≡ Some to → LeadsOn code at to
jump_leads code at to None h e = absurd cc
jump_leads code at to (Some z) h e =
    let t = target_some code at (place_of (pos (at + 1) +ℤ z)) h in
    subst (LeadsOn code at) (some_nat t.0 to (sym t.1 ∙ e)) t.2

-- an instruction with a way to the next slot goes on
no_next : (i : Insn) (w : Ways) (ks : Kinds) → w.next ≡ None → w.next ≡ Some ks → goes_on i ≡ true
no_next i w ks a b = let bad = sym a ∙ b in absurd cc

abbrev ok : Ways → Result Ways Violation
ok w = Ok w

ways_is : (v w : Ways) → ok v ≡ ok w → v ≡ w
ways_is v w e = cc

pub next_goes_on : (decl : Declaration) (i : Insn) (ks after : Kinds) (w : Ways) → transfer_of decl i ks ≡ Ok w
    → w.next ≡ Some after → goes_on i ≡ true
next_goes_on decl (Jump offset) ks after w t n = no_next (Jump offset) w after (ap (λ (x : Ways). x.next) (sym (ways_is _ w t))) n
next_goes_on decl (JumpLong offset) ks after w t n = no_next (JumpLong offset) w after (ap (λ (x : Ways). x.next) (sym (ways_is _ w t))) n
next_goes_on decl Exit ks after w t n = exits (is_present (kind_at ks 0)) (is_plain (kind_at ks 0)) t
  where
    exits : (b p : Bool) → check b EmptyRegister (check p PointerReturned (Ok (record { next = None; jump = None }))) ≡ Ok w → false ≡ true
    exits true true e = no_next Exit w after (ap (λ (x : Ways). x.next) (sym (ways_is _ w e))) n
    exits true false e = absurd cc
    exits false p e = absurd cc
next_goes_on decl i ks after w t n = refl

pub falls_within : (code : List Place) (at : ℕ) (i : Insn) → fall_flaw code at i ≡ None → goes_on i ≡ true → next_place at i < length code
falls_within code at i h g =
    let h2 : cond (leb (length code) (next_place at i)) (Some FallsOff) None ≡ None = sym (ap (λ (b : Bool). cond (b && leb (length code) (next_place at i)) (Some FallsOff) None) g) ∙ h in
    (not_nat_le (length code) (next_place at i) FallsOff None h2).0

pub next_later : (at : ℕ) (i : Insn) → suc at ≤ next_place at i
next_later at i = elim (is_wide i) as (λ b. suc at ≤ cond b (at + 2) (at + 1)) [ true ↦ omega arith | false ↦ omega arith ]
