-- The text of code says the code again.
use Rattle.std.proofs.Common.{arith, subst, ◌≡◌, ℕ, ◌+◌, ◌^◌, ◌<◌, ◌≤◌, ℤ, Bool, true, false, ◌==◌, if◌then◌else◌}
use Rattle.std.proofs.Common.{List, [], ◌∷◌, ◌++◌, map, length, All, Ok, Err, sym, refl, ap, ap₂, ◌∙◌, codes}
use Rattle.std.specs.Prelude.{Option, Some, None, Result, IfSome}
use Rattle.std.specs.List.{slice_split}
use Rattle.std.specs.Str.Lines.{lines, lines_of_parts, strip_carriage_return}
use Rattle.std.proofs.lemmas.Bool.{false≢true, le-ltb}
use Rattle.std.proofs.lemmas.List.{length-append, append_assoc}
use Rattle.std.proofs.lemmas.List.Splits.{slice_split_at}
use Rattle.bpf_encoding.specs.Spelling.{places_of, places_from, is_wide, is_whole}
use Rattle.bpf_encoding.specs.Spells.{IsCode}
use Rattle.bpf_encoding.specs.declared.insn.Insn.{Insn}
use Rattle.bpf_encoding.specs.declared.insn.Insn.TheVariants as insn
use Rattle.bpf_encoding.specs.declared.insn.Register.{Register}
use Rattle.bpf_encoding.specs.declared.insn.Source.{Source}
use Rattle.bpf_encoding.specs.declared.insn.Place.{Place}
use Rattle.bpf_encoding.specs.declared.insn.Place.TheVariants as place
use Rattle.bpf_asm.specs.declared.line.LineFault.{LineFault}
use Rattle.bpf_asm.specs.declared.assemble.AsmFault.{AsmFault}
use Rattle.bpf_asm.specs.declared.assemble.AsmFault.TheVariants.{TooLong}
use Rattle.bpf_asm.specs.declared.mnemonic.Mnemonic.TheVariants as m
use Rattle.bpf_asm.specs.declared.parts.Operand.{Operand}
use Rattle.bpf_asm.specs.declared.parts.Operand.TheVariants.{Number, Wide, Jump, JumpLong, Memory}
use Rattle.bpf_asm.specs.declared.parts.Parts.{Parts}
use Rattle.bpf_asm.specs.Mnemonics.{mnemonic_name}
use Rattle.bpf_asm.specs.Numbers.{and_then, number_said, jump_said}
use Rattle.bpf_asm.specs.Operand.{register_name, register_said, source_said, memory_said}
use Rattle.bpf_asm.specs.Lines.{insn_of_texts, line_said, by_line, first_then, insns_from, code_of, or_fault, assembled}
use Rattle.bpf_asm.specs.Parts.{IsOperand, AreOperands, parts_of, source_operand, operand_text, offset_text, line_of, AreOperandsAt, text_of}
use Rattle.bpf_asm.proofs.Plain.{AllSolid, tail_text, no_newline, line_stays}
use Rattle.bpf_asm.proofs.Back.{mnemonic_solid, register_back}
use Rattle.bpf_asm.proofs.NumbersBack.{number_back, jump_back, wide_back}
use Rattle.bpf_asm.proofs.Assembling.{places_of-append}
use Rattle.bpf_asm.proofs.Again.{line_again, with_none, with_one, with_two, with_three, operand_solid, source_back}
use Rattle.bpf_asm.proofs.Again.{memory_back, within16, within32, half16, half32}

-- ---- the texts of an instruction's operands

abbrev text_if : Option Operand → List (List ℕ) → List (List ℕ)
text_if None ts = ts
text_if (Some o) ts = operand_text o ∷ ts

abbrev texts_of : Parts → List (List ℕ)
texts_of p = text_if p.first (text_if p.second (text_if p.third []))

solid_if : (o : Option Operand) (ts : List (List ℕ)) → IfSome o IsOperand → AllSolid ts → AllSolid (text_if o ts)
solid_if None ts fits others = others
solid_if (Some o) ts fits others = (operand_solid o fits, others)

texts_solid : (p : Parts) → AreOperands p → AllSolid (texts_of p)
texts_solid p fits = solid_if p.first (text_if p.second (text_if p.third [])) fits.0 (solid_if p.second (text_if p.third []) fits.1 (solid_if p.third [] fits.2 tt))

-- the line is the mnemonic and these texts
written : (i : Insn) → line_of i ≡ mnemonic_name (parts_of i).mnemonic ++ tail_text (texts_of (parts_of i))
written (insn.Alu width operation dst second) = with_two (mnemonic_name (m.Alu width operation)) (register_name dst) (operand_text (source_operand second))
written (insn.Negate width dst) = with_one (mnemonic_name (m.Negate width)) (register_name dst)
written (insn.MoveSigned extension dst src) = with_two (mnemonic_name (m.MoveSigned extension)) (register_name dst) (register_name src)
written (insn.Order order width dst) = with_one (mnemonic_name (m.Order order width)) (register_name dst)
written (insn.LoadWide dst value) = with_two (mnemonic_name m.LoadWide) (register_name dst) (operand_text (Wide value))
written (insn.Jump offset) = with_one (mnemonic_name m.Jump) (operand_text (Jump offset))
written (insn.JumpLong offset) = with_one (mnemonic_name m.JumpLong) (operand_text (JumpLong offset))
written (insn.JumpIf width condition dst second offset) = with_three (mnemonic_name (m.JumpIf width condition)) (register_name dst) (operand_text (source_operand second)) (operand_text (Jump offset))
written (insn.Load size dst base offset) = with_two (mnemonic_name (m.Load size)) (register_name dst) (operand_text (Memory base offset))
written (insn.LoadSigned size dst base offset) = with_two (mnemonic_name (m.LoadSigned size)) (register_name dst) (operand_text (Memory base offset))
written (insn.StoreImm size base offset imm) = with_two (mnemonic_name (m.StoreImm size)) (operand_text (Memory base offset)) (operand_text (Number imm))
written (insn.Store size base src offset) = with_two (mnemonic_name (m.Store size)) (operand_text (Memory base offset)) (register_name src)
written (insn.Atomic width operation base src offset) = with_two (mnemonic_name (m.Atomic width operation)) (operand_text (Memory base offset)) (register_name src)
written (insn.Call helper) = with_one (mnemonic_name m.Call) (operand_text (Number helper))
written insn.Exit = with_none (mnemonic_name m.Exit)

-- ---- each line says its instruction

on_register : (r : Register) (f : Register → Result Insn LineFault) → and_then (register_said (register_name r)) f ≡ f r
on_register r f = ap (λ (x : Result Register LineFault). and_then x f) (register_back r)

on_source : (s : Source) (f : Source → Result Insn LineFault) → IsOperand (source_operand s)
    → and_then (source_said (operand_text (source_operand s))) f ≡ f s
on_source s f fits = ap (λ (x : Result Source LineFault). and_then x f) (source_back s fits)

on_memory : (r : Register) (z : ℤ) (f : Register × ℤ → Result Insn LineFault) → IsOperand (Memory r z)
    → and_then (memory_said (operand_text (Memory r z))) f ≡ f (r, z)
on_memory r z f fits = ap (λ (x : Result (Register × ℤ) LineFault). and_then x f) (memory_back r z fits)

on_number : (n : ℤ) (f : ℤ → Result Insn LineFault) → IsOperand (Number n) → and_then (number_said (operand_text (Number n))) f ≡ f n
on_number n f fits = ap (λ (x : Result ℤ LineFault). and_then x f) (number_back n (within32 n fits))

on_jump : (n : ℤ) (f : ℤ → Result Insn LineFault) → IsOperand (Jump n) → and_then (jump_said (2 ^ 15) (offset_text n)) f ≡ f n
on_jump n f fits = ap (λ (x : Result ℤ LineFault). and_then x f) (jump_back (2 ^ 15) n half16 (within16 n fits))

on_long : (n : ℤ) (f : ℤ → Result Insn LineFault) → IsOperand (JumpLong n) → and_then (jump_said (2 ^ 31) (offset_text n)) f ≡ f n
on_long n f fits = ap (λ (x : Result ℤ LineFault). and_then x f) (jump_back (2 ^ 31) n half32 (within32 n fits))

says_texts : (i : Insn) → AreOperands (parts_of i) → insn_of_texts (parts_of i).mnemonic (texts_of (parts_of i)) ≡ Ok i
says_texts (insn.Alu width operation dst second) fits = on_register dst _ ∙ on_source second _ fits.1
says_texts (insn.Negate width dst) fits = on_register dst _
says_texts (insn.MoveSigned extension dst src) fits = on_register dst _ ∙ on_register src _
says_texts (insn.Order order width dst) fits = on_register dst _
says_texts (insn.LoadWide dst value) fits = on_register dst _ ∙ ap (λ (x : Result ℕ LineFault). and_then x (λ v. Ok (insn.LoadWide dst v))) (wide_back value fits.1)
says_texts (insn.Jump offset) fits = on_jump offset _ fits.0
says_texts (insn.JumpLong offset) fits = on_long offset _ fits.0
says_texts (insn.JumpIf width condition dst second offset) fits = on_register dst _ ∙ on_source second _ fits.1 ∙ on_jump offset _ fits.2
says_texts (insn.Load size dst base offset) fits = on_register dst _ ∙ on_memory base offset _ fits.1
says_texts (insn.LoadSigned size dst base offset) fits = on_register dst _ ∙ on_memory base offset _ fits.1
says_texts (insn.StoreImm size base offset imm) fits = on_memory base offset _ fits.0 ∙ on_number imm _ fits.1
says_texts (insn.Store size base src offset) fits = on_memory base offset _ fits.0 ∙ on_register src _
says_texts (insn.Atomic width operation base src offset) fits = on_memory base offset _ fits.0 ∙ on_register src _
says_texts (insn.Call helper) fits = on_number helper _ fits.0
says_texts insn.Exit fits = refl

pub said_again : (i : Insn) → AreOperands (parts_of i) → line_said (line_of i) ≡ Ok (Some i)
said_again i fits = line_again (parts_of i).mnemonic (texts_of (parts_of i)) (line_of i) i (written i) (texts_solid (parts_of i) fits) (says_texts i fits)

-- ---- the lines of the text

abbrev pub insns_in : List Place → List Insn
insns_in [] = []
insns_in (place.Insn i ∷ places) = i ∷ insns_in places
insns_in (place.Second ∷ places) = insns_in places

-- the operands at all places are what their types have
abbrev pub AllOperands : List Place → Type 0
AllOperands [] = Unit {0}
AllOperands (p ∷ places) = AreOperandsAt p × AllOperands places

abbrev AllFit : List Insn → Type 0
AllFit [] = Unit {0}
AllFit (i ∷ insns) = AreOperands (parts_of i) × AllFit insns

all_fit : (places : List Place) → AllOperands places → AllFit (insns_in places)
all_fit [] fits = tt
all_fit (place.Insn i ∷ places) fits = (fits.0, all_fit places fits.1)
all_fit (place.Second ∷ places) fits = all_fit places fits.1

line_no_newline : (i : Insn) → AreOperands (parts_of i) → All (λ b. (b == 10) ≡ false) (line_of i)
line_no_newline i fits = subst (All (λ b. (b == 10) ≡ false)) (sym (written i)) (no_newline (mnemonic_name (parts_of
    i).mnemonic) (texts_of (parts_of i)) (mnemonic_solid (parts_of i).mnemonic) (texts_solid (parts_of i) fits))

stays : (i : Insn) → AreOperands (parts_of i) → strip_carriage_return (line_of i) ≡ line_of i
stays i fits = ap strip_carriage_return (written i) ∙ line_stays (mnemonic_name (parts_of i).mnemonic) (texts_of
    (parts_of i)) (mnemonic_solid (parts_of i).mnemonic) (texts_solid (parts_of i) fits) ∙ sym (written i)

parts_of_text : (places : List Place) → AllOperands places → slice_split (λ b. b == 10) (text_of places) ≡ map line_of (insns_in places) ++ ([] ∷ [])
parts_of_text [] fits = refl
parts_of_text (place.Second ∷ places) fits = parts_of_text places fits.1
parts_of_text (place.Insn i ∷ places) fits =
    ap (slice_split (λ b. b == 10)) (append_assoc (line_of i) (codes "\n") (text_of places))
    ∙ slice_split_at (λ b. b == 10) (line_of i) 10 (text_of places) (line_no_newline i fits.0) refl
    ∙ ap (λ (ps : List (List ℕ)). line_of i ∷ ps) (parts_of_text places fits.1)

lines_of_lines : (insns : List Insn) → AllFit insns → lines_of_parts (map line_of insns ++ ([] ∷ [])) ≡ map line_of insns
lines_of_lines [] fits = refl
lines_of_lines (i ∷ []) fits = ap (λ (l : List ℕ). l ∷ []) (stays i fits.0)
lines_of_lines (i ∷ j ∷ insns) fits = ap₂ (λ (l : List ℕ) (ls : List (List ℕ)). l ∷ ls) (stays i fits.0) (lines_of_lines (j ∷ insns) fits.1)

pub lines_of_text : (places : List Place) → AllOperands places → lines (text_of places) ≡ map line_of (insns_in places)
lines_of_text places fits = ap lines_of_parts (parts_of_text places fits) ∙ lines_of_lines (insns_in places) (all_fit places fits)

-- ---- the code of the lines

read_again : (insns : List Insn) (number slots : ℕ) → AllFit insns → slots + length (places_of insns) ≤ 4096
    → insns_from number slots (map line_of insns) ≡ Ok insns
read_again [] number slots fits few = refl
read_again (i ∷ insns) number slots fits few =
    let later = λ (s : ℕ). insns_from (number + 1) s (map line_of insns) in
    let n = length-append (places_of (i ∷ [])) (places_of insns) in
    let all : length (places_of (i ∷ insns)) ≡ length (places_of (i ∷ []) ++ places_of insns) = ap length (places_of-append (i ∷ []) insns) in
    let here : slots + length (places_of (i ∷ [])) ≤ 4096 = omega (arith, n, all, few) in
    let others : slots + length (places_of (i ∷ [])) + length (places_of insns) ≤ 4096 = omega (arith, n, all, few) in
    ap (λ (r : Result (Option Insn) LineFault). by_line number slots r later) (said_again i fits.0)
    ∙ ap (λ (b : Bool). if b then Err (TooLong number) else first_then i (later (slots + length (places_of (i ∷ []))))) (le-ltb 4096 (slots + length (places_of (i ∷ []))) here)
    ∙ ap (first_then i) (read_again insns (number + 1) (slots + length (places_of (i ∷ []))) fits.1 others)

whole_again : (due : Bool) (places : List Place) → is_whole due places ≡ true → places_from due (places_of (insns_in places)) ≡ places
whole_again false [] whole = refl
whole_again true [] whole = absurd (false≢true whole)
whole_again false (place.Insn i ∷ places) whole = ap (λ (ps : List Place). place.Insn i ∷ ps) (whole_again (is_wide i) places whole)
whole_again true (place.Insn i ∷ places) whole = absurd (false≢true whole)
whole_again false (place.Second ∷ places) whole = absurd (false≢true whole)
whole_again true (place.Second ∷ places) whole = ap (λ (ps : List Place). place.Second ∷ ps) (whole_again false places whole)

code_again : (places : List Place) → 0 < length places → is_whole false places ≡ true → code_of (insns_in places) ≡ Ok places
code_again [] some whole = absurd (omega (arith, some))
code_again (place.Insn i ∷ places) some whole = ap Ok (whole_again false (place.Insn i ∷ places) whole)
code_again (place.Second ∷ places) some whole = absurd (false≢true whole)

pub assembled_again : (places : List Place) → IsCode places → AllOperands places → assembled (text_of places) ≡ Ok places
assembled_again places code fits =
    let few : length (places_of (insns_in places)) ≤ 4096 = omega (arith, ap length (whole_again false places code.whole), code.short) in
    ap (λ (ls : List (List ℕ)). or_fault (insns_from 1 0 ls) code_of) (lines_of_text places fits)
    ∙ ap (λ (r : Result (List Insn) AsmFault). or_fault r code_of) (read_again (insns_in places) 1 0 (all_fit places fits) (omega (arith, few)))
    ∙ code_again places code.some code.whole

pub one_place_more : (before : List Place) (p : Place) → AllOperands before → AreOperandsAt p → AllOperands (before ++ p ∷ [])
one_place_more [] p fits one = (one, tt)
one_place_more (q ∷ places) p fits one = (fits.0, one_place_more places p fits.1 one)
