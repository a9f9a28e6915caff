-- The line of an instruction says it again.
use Rattle.std.proofs.Common.{arith, ◌≡◌, ℕ, ◌-◌, ◌^◌, ◌<◌, ◌≤◌, ℤ, pos, negsuc, Bool, true, false, ◌&&◌, ◌==◌}
use Rattle.std.proofs.Common.{nat_le, nat_lt, not, if◌then◌else◌, List, [], ◌∷◌, ◌++◌, length, take, drop, Ok, Err}
use Rattle.std.proofs.Common.{sym, refl, ap, ap₂, ◌∙◌, codes}
use Rattle.std.specs.Prelude.{FitsSigned, Option, Some, None, Result, slice_index_or}
use Rattle.std.specs.Int.{w16, w32}
use Rattle.std.specs.List.{list_all, position_or_len}
use Rattle.std.proofs.Math.Seq.{take-append_seam, drop-append_seam}
use Rattle.std.proofs.lemmas.Bool.{false≢true}
use Rattle.std.proofs.lemmas.Bool.Decides.{nat_tests}
use Rattle.std.proofs.lemmas.List.{length-append, append-nil, append_assoc}
use Rattle.std.proofs.lemmas.List.Folds.{list_all-append}
use Rattle.bpf_encoding.specs.declared.insn.Insn.{Insn}
use Rattle.bpf_encoding.specs.declared.insn.Register.{Register}
use Rattle.bpf_encoding.specs.declared.insn.Register.TheVariants.{R0, R1, R2, R3, R4, R5, R6, R7, R8, R9, R10}
use Rattle.bpf_encoding.specs.declared.insn.Source.{Source}
use Rattle.bpf_encoding.specs.declared.insn.Source.TheVariants as source
use Rattle.bpf_asm.specs.declared.line.LineFault.{LineFault}
use Rattle.bpf_asm.specs.declared.line.LineFault.TheVariants as fault
use Rattle.bpf_asm.specs.declared.mnemonic.Mnemonic.{Mnemonic}
use Rattle.bpf_asm.specs.declared.parts.Operand.{Operand}
use Rattle.bpf_asm.specs.declared.parts.Operand.TheVariants.{Reg, Number, Wide, Jump, JumpLong, Memory}
use Rattle.bpf_asm.specs.Cutting.{operand_texts, is_empty}
use Rattle.bpf_asm.specs.Mnemonics.{mnemonic_name, mnemonic_said}
use Rattle.bpf_asm.specs.Numbers.{and_then, has, number_said, jump_said}
use Rattle.bpf_asm.specs.Operand.{register_name, register_said, source_said, address_said, memory_said, inside, in_register, in_slot, is_sign}
use Rattle.bpf_asm.specs.Lines.{insn_of_texts, insn_said, line_said}
use Rattle.bpf_asm.specs.Parts.{IsOperand, source_operand, operand_text, offset_text}
use Rattle.bpf_asm.proofs.Plain.{is_plain, is_solid, AllSolid, tail_text, said_in_line, word_of_line, rest_of_line}
use Rattle.bpf_asm.proofs.Plain.{operands_of_line, not_empty, first_found}
use Rattle.bpf_asm.proofs.Back.{mnemonic_back, mnemonic_solid, register_back, register_solid}
use Rattle.bpf_asm.proofs.NumbersBack.{IsWithin, number_back, jump_back, number_solid, offset_plain, offset_solid}
use Rattle.bpf_asm.proofs.NumbersBack.{wide_solid, number_no_register, has_first, solid_by}

-- ---- a line in parts

abbrev some_insn : Insn → Result (Option Insn) LineFault
some_insn i = Ok (Some i)

abbrev said : List ℕ → Result (Option Insn) LineFault
said t = if is_empty t then Ok None else and_then (insn_said t) some_insn

again : (x : ℕ) (xs : List ℕ) (mn : Mnemonic) (ts : List (List ℕ)) (i : Insn) → is_solid (x ∷ xs) ≡ true → AllSolid ts
    → mnemonic_said (x ∷ xs) ≡ Ok mn → insn_of_texts mn ts ≡ Ok i
    → line_said ((x ∷ xs) ++ tail_text ts) ≡ Ok (Some i)
again x xs mn ts i name solid is says =
    let line : List ℕ = (x ∷ xs) ++ tail_text ts in
    ap said (said_in_line x xs ts name solid)
    ∙ ap (λ (b : Bool). if b then Ok None else and_then (insn_said line) some_insn) (not_empty x (xs ++ tail_text ts))
    ∙ ap (λ (r : Result Insn LineFault). and_then r some_insn)
    (ap₂ (λ (w rest : List ℕ). and_then (mnemonic_said w) (λ k. insn_of_texts k (operand_texts rest))) (word_of_line (x ∷ xs) ts name) (rest_of_line (x ∷ xs) ts name)
    ∙ ap (λ (us : List (List ℕ)). and_then (mnemonic_said (x ∷ xs)) (λ k. insn_of_texts k us)) (operands_of_line ts solid)
    ∙ ap (λ (r : Result Mnemonic LineFault). and_then r (λ k. insn_of_texts k ts)) is
    ∙ says)

by_name : (name : List ℕ) (mn : Mnemonic) (ts : List (List ℕ)) (i : Insn) → is_solid name ≡ true → AllSolid ts
    → mnemonic_said name ≡ Ok mn → insn_of_texts mn ts ≡ Ok i → line_said (name ++ tail_text ts) ≡ Ok (Some i)
by_name [] mn ts i name solid is says = absurd (false≢true name)
by_name (x ∷ xs) mn ts i name solid is says = again x xs mn ts i name solid is says

pub line_again : (mn : Mnemonic) (ts : List (List ℕ)) (line : List ℕ) (i : Insn)
    → line ≡ mnemonic_name mn ++ tail_text ts → AllSolid ts → insn_of_texts mn ts ≡ Ok i
    → line_said line ≡ Ok (Some i)
line_again mn ts line i is solid says = ap line_said is ∙ by_name (mnemonic_name mn) mn ts i (mnemonic_solid mn) solid (mnemonic_back mn) says

-- ---- lines as they are written

pub with_none : (name : List ℕ) → ((name ++ []) ++ []) ++ [] ≡ name ++ tail_text []
with_none name = append-nil ((name ++ []) ++ []) ∙ append-nil (name ++ [])

pub with_one : (name a : List ℕ) → ((name ++ (codes " " ++ a)) ++ []) ++ [] ≡ name ++ tail_text (a ∷ [])
with_one name a = append-nil ((name ++ (32 ∷ a)) ++ []) ∙ append-nil (name ++ (32 ∷ a)) ∙ ap (λ (t : List ℕ). name ++ (32 ∷ t)) (sym (append-nil a))

pub with_two : (name a b : List ℕ) → ((name ++ (codes " " ++ a)) ++ (codes ", " ++ b)) ++ [] ≡ name ++ tail_text (a ∷ b ∷ [])
with_two name a b =
    append-nil ((name ++ (32 ∷ a)) ++ (44 ∷ 32 ∷ b)) ∙ append_assoc name (32 ∷ a) (44 ∷ 32 ∷ b) ∙ ap (λ (t : List ℕ). name ++ (32 ∷ (a ++ (44 ∷ 32 ∷ t)))) (sym (append-nil b))

pub with_three : (name a b d : List ℕ) → ((name ++ (codes " " ++ a)) ++ (codes ", " ++ b)) ++ (codes ", " ++ d) ≡ name ++ tail_text (a ∷ b ∷ d ∷ [])
with_three name a b d =
    append_assoc (name ++ (32 ∷ a)) (44 ∷ 32 ∷ b) (44 ∷ 32 ∷ d) ∙ append_assoc name (32 ∷ a) ((44 ∷ 32 ∷ b) ++ (44 ∷ 32 ∷ d))
    ∙ ap (λ (t : List ℕ). name ++ (32 ∷ (a ++ (44 ∷ 32 ∷ (b ++ (44 ∷ 32 ∷ t)))))) (sym (append-nil d))

-- ---- operands

pub within16 : (z : ℤ) → FitsSigned w16 z → IsWithin (2 ^ 15) z
within16 (pos n) fits = omega (arith, fits)
within16 (negsuc n) fits = omega (arith, fits)

pub within32 : (z : ℤ) → FitsSigned w32 z → IsWithin (2 ^ 31) z
within32 (pos n) fits = omega (arith, fits)
within32 (negsuc n) fits = omega (arith, fits)

pub half16 : 2 ^ 15 ≤ 2 ^ 31
half16 = omega arith

pub half32 : 2 ^ 31 ≤ 2 ^ 31
half32 = omega arith

is_register : (r : Register) → has 0 114 (register_name r) ≡ true
is_register R0 = refl
is_register R1 = refl
is_register R2 = refl
is_register R3 = refl
is_register R4 = refl
is_register R5 = refl
is_register R6 = refl
is_register R7 = refl
is_register R8 = refl
is_register R9 = refl
is_register R10 = refl

by_letter : (t : List ℕ) (b : Bool) → has 0 114 t ≡ b
    → source_said t ≡ (if b then and_then (register_said t) in_register else and_then (number_said t) in_slot)
by_letter t b is = ap (λ (x : Bool). if x then and_then (register_said t) in_register else and_then (number_said t) in_slot) is

pub source_back : (s : Source) → IsOperand (source_operand s) → source_said (operand_text (source_operand s)) ≡ Ok s
source_back (source.Imm n) fits = by_letter (operand_text (Number n)) false (number_no_register n (within32 n fits)) ∙
    ap (λ (r : Result ℤ LineFault). and_then r in_slot) (number_back n (within32 n fits))
source_back (source.Reg r) fits = by_letter (register_name r) true (is_register r) ∙ ap (λ (x : Result Register LineFault). and_then x in_register) (register_back r)

no_sign : (r : Register) → list_all (λ b. not (is_sign b)) (register_name r) ≡ true
no_sign R0 = refl
no_sign R1 = refl
no_sign R2 = refl
no_sign R3 = refl
no_sign R4 = refl
no_sign R5 = refl
no_sign R6 = refl
no_sign R7 = refl
no_sign R8 = refl
no_sign R9 = refl
no_sign R10 = refl

sign_at : (r : Register) (z : ℤ) → position_or_len is_sign (register_name r ++ offset_text z) ≡ length (register_name r)
sign_at r (pos n) = first_found is_sign (register_name r) 43 _ (no_sign r) refl
sign_at r (negsuc n) = first_found is_sign (register_name r) 45 _ (no_sign r) refl

some_offset : (z : ℤ) → 0 < length (offset_text z)
some_offset (pos n) = omega arith
some_offset (negsuc n) = omega arith

abbrev address : ℕ → List ℕ → Result (Register × ℤ) LineFault
address k t = and_then (register_said (take k t)) (λ base. and_then (jump_said (2 ^ 15) (drop k t)) (λ offset. Ok (base, offset)))

address_back : (r : Register) (z : ℤ) → FitsSigned w16 z → address_said (register_name r ++ offset_text z) ≡ Ok (r, z)
address_back r z fits =
    let t : List ℕ = register_name r ++ offset_text z in
    let at = sign_at r z in
    let apart : (position_or_len is_sign t == length t) ≡ false = grind (arith, nat_tests, at, length-append (register_name r) (offset_text z), some_offset z) in
    ap₂ (λ (b : Bool) (k : ℕ). if b then Err fault.Operands else address k t) apart at
    ∙ ap₂ (λ (base offset : List ℕ). and_then (register_said base) (λ r'. and_then (jump_said (2 ^ 15) offset) (λ z'. Ok
    (r', z')))) (take-append_seam (register_name r) (offset_text z)) (drop-append_seam (register_name r) (offset_text
    z))
    ∙ ap (λ (x : Result Register LineFault). and_then x (λ r'. and_then (jump_said (2 ^ 15) (offset_text z)) (λ z'. Ok (r', z')))) (register_back r)
    ∙ ap (λ (x : Result ℤ LineFault). and_then x (λ z'. Ok (r, z'))) (jump_back (2 ^ 15) z half16 (within16 z fits))

-- a text in brackets
last_byte : (t : List ℕ) (b : ℕ) → slice_index_or (t ++ b ∷ []) (length t) 0 ≡ b
last_byte [] b = refl
last_byte (x ∷ t) b = last_byte t b

has_last : (t : List ℕ) (b : ℕ) → has (length (t ++ b ∷ []) - 1) b (t ++ b ∷ []) ≡ true
has_last t b =
    let n = length-append t (b ∷ []) in
    let at : length (t ++ b ∷ []) - 1 ≡ length t = omega (arith, n) in
    let low : nat_lt (length t) (length (t ++ b ∷ [])) ≡ true = grind (arith, nat_tests, n) in
    ap (λ (k : ℕ). has k b (t ++ b ∷ [])) at
    ∙ ap₂ (λ (x : Bool) (y : ℕ). x && (y == b)) low (last_byte t b)
    ∙ (let same : (b == b) ≡ true = grind (arith, nat_tests) in same)

bracketed : (t : List ℕ) → memory_said ((91 ∷ t) ++ (93 ∷ [])) ≡ address_said t
bracketed t =
    let whole : List ℕ = (91 ∷ t) ++ (93 ∷ []) in
    let n = length-append (91 ∷ t) (93 ∷ []) in
    let long : nat_le 2 (length whole) ≡ true = grind (arith, nat_tests, n) in
    let cut : length whole - 1 - 1 ≡ length t = omega (arith, n) in
    ap (λ (b : Bool). if b then address_said (inside whole) else Err fault.Operands)
    (ap₂ (λ (a b : Bool). a && b) long (ap₂ (λ (a b : Bool). a && b) (has_first 91 91 (t ++ (93 ∷ []))) (has_last (91 ∷ t) 93)))
    ∙ ap address_said (ap (λ (k : ℕ). take k (t ++ (93 ∷ []))) cut ∙ take-append_seam t (93 ∷ []))

pub memory_back : (r : Register) (z : ℤ) → FitsSigned w16 z → memory_said (operand_text (Memory r z)) ≡ Ok (r, z)
memory_back r z fits = bracketed (register_name r ++ offset_text z) ∙ address_back r z fits

plain_of : (t : List ℕ) → is_solid t ≡ true → list_all is_plain t ≡ true
plain_of t solid = second (nat_lt 0 (length t)) (list_all is_plain t) solid
  where
    second : (x y : Bool) → (x && y) ≡ true → y ≡ true
    second true y h = h
    second false y h = absurd (false≢true h)

memory_solid : (r : Register) (z : ℤ) → FitsSigned w16 z → is_solid (operand_text (Memory r z)) ≡ true
memory_solid r z fits =
    let inner = register_name r ++ offset_text z in
    let plain : list_all is_plain inner ≡ true = list_all-append is_plain (register_name r) (offset_text z) ∙ ap₂ (λ (a
    b : Bool). a && b) (plain_of (register_name r) (register_solid r)) (offset_plain (2 ^ 15) z half16 (within16 z
    fits)) in
    solid_by ((91 ∷ inner) ++ (93 ∷ [])) (omega (arith, length-append (91 ∷ inner) (93 ∷ []))) (list_all-append is_plain (91 ∷ inner) (93 ∷ []) ∙ ap (λ (b : Bool). b && true) plain)

pub operand_solid : (o : Operand) → IsOperand o → is_solid (operand_text o) ≡ true
operand_solid (Reg r) fits = register_solid r
operand_solid (Number n) fits = number_solid n (within32 n fits)
operand_solid (Wide value) fits = wide_solid value
operand_solid (Jump offset) fits = offset_solid (2 ^ 15) offset half16 (within16 offset fits)
operand_solid (JumpLong offset) fits = offset_solid (2 ^ 31) offset half32 (within32 offset fits)
operand_solid (Memory base offset) fits = memory_solid base offset fits
