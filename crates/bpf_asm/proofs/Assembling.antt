-- Lines read one after another.
use Rattle.std.proofs.Common.{arith, ◌≡◌, ℕ, ◌+◌, ◌<◌, ◌≤◌, Bool, true, false, if◌then◌else◌, List, [], ◌∷◌, ◌++◌}
use Rattle.std.proofs.Common.{length, get_or, drop, sym, refl, ap, subst, ◌∙◌, Ok, Err}
use Rattle.std.specs.Prelude.{Option, Some, Result}
use Rattle.std.proofs.lemmas.List.{at_drop_more, at_drop_all, append_assoc, append-nil, length-append}
use Rattle.std.proofs.lemmas.Bool.{lt-ltb, le-ltb}
use Rattle.bpf_encoding.specs.Spelling.{places_of, places_from, is_wide}
use Rattle.bpf_encoding.specs.declared.insn.Insn.{Insn}
use Rattle.bpf_encoding.specs.declared.insn.Place.{Place}
use Rattle.bpf_encoding.specs.declared.insn.Place.TheVariants as place
use Rattle.bpf_asm.specs.declared.line.LineFault.{LineFault}
use Rattle.bpf_asm.specs.declared.assemble.AsmFault.{AsmFault}
use Rattle.bpf_asm.specs.declared.assemble.AsmFault.TheVariants.{TooLong}
use Rattle.bpf_asm.specs.Lines.{line_said, by_line, first_then, insns_from}

-- these instructions, and then those of the rest
abbrev pub prefixed : List Insn → Result (List Insn) AsmFault → Result (List Insn) AsmFault
prefixed before (Ok insns) = Ok (before ++ insns)
prefixed before (Err e) = Err e

pub prefixed_first : (before : List Insn) (i : Insn) (rest : Result (List Insn) AsmFault)
    → prefixed before (first_then i rest) ≡ prefixed (before ++ i ∷ []) rest
prefixed_first before i (Ok insns) = ap Ok (sym (append_assoc before (i ∷ []) insns))
prefixed_first before i (Err e) = refl

-- one line, and then the others
pub line_step : (ls : List (List ℕ)) (number slots : ℕ) (line : List ℕ) → number < length ls → line ≡ get_or ls number line
    → insns_from (number + 1) slots (drop number ls) ≡ by_line (number + 1) slots (line_said line) (λ s. insns_from (number + 1 + 1) s (drop (number + 1) ls))
line_step ls number slots line inside is =
    at_drop_more (insns_from (number + 1) slots) ls number line inside
    ∙ ap (λ (x : List ℕ). by_line (number + 1) slots (line_said x) (λ s. insns_from (number + 1 + 1) s (drop (number + 1) ls))) (sym is)

-- ---- slots

places_from-append : (due : Bool) (xs ys : List Place) → places_from due (xs ++ ys) ≡ places_from due xs ++ ys
places_from-append true xs ys = refl
places_from-append false xs ys = refl

pub places_of-append : (before after : List Insn) → places_of (before ++ after) ≡ places_of before ++ places_of after
places_of-append [] after = refl
places_of-append (i ∷ before) after = ap (λ (ps : List Place). place.Insn i ∷ places_from (is_wide i) ps)
    (places_of-append before after) ∙ ap (λ (ps : List Place). place.Insn i ∷ ps) (places_from-append (is_wide i)
    (places_of before) (places_of after))

pub slots_more : (before : List Insn) (i : Insn) → length (places_of (before ++ i ∷ [])) ≡ length (places_of before) + length (places_of (i ∷ []))
slots_more before i = ap length (places_of-append before (i ∷ [])) ∙ length-append (places_of before) (places_of (i ∷ []))

-- ---- one line more

abbrev pub later : List (List ℕ) → ℕ → ℕ → Result (List Insn) AsmFault
later ls number s = insns_from (number + 1 + 1) s (drop (number + 1) ls)

pub going_on : (ls : List (List ℕ)) (number slots k : ℕ) (line : List ℕ) (said : Result (Option Insn) LineFault) (before : List Insn) (total : Result (List Insn) AsmFault)
    → number ≡ k → (k < length ls) × (line ≡ get_or ls k line) → said ≡ line_said line
    → prefixed before (insns_from (number + 1) slots (drop number ls)) ≡ total
    → prefixed before (by_line (number + 1) slots said (later ls number)) ≡ total
going_on ls number slots k line said before total is here same h =
    ap (λ (r : Result (Option Insn) LineFault). prefixed before (by_line (number + 1) slots r (λ s. insns_from (number + 1 + 1) s (drop (number + 1) ls)))) same
    ∙ sym (ap (prefixed before) (line_step ls number slots line (subst (λ (n : ℕ). n < length ls) (sym is) here.0) (here.1 ∙ ap (λ (n : ℕ). get_or ls n line) (sym is))))
    ∙ h

pub too_long : (number slots : ℕ) (i : Insn) (before : List Insn) (rest : ℕ → Result (List Insn) AsmFault) (total : Result (List Insn) AsmFault)
    → 4096 < slots + length (places_of (i ∷ [])) → prefixed before (by_line number slots (Ok (Some i)) rest) ≡ total → total ≡ Err (TooLong number)
too_long number slots i before rest total many h =
    sym h ∙ ap (λ (b : Bool). prefixed before (if b then Err (TooLong number) else first_then i (rest (slots + length
    (places_of (i ∷ [])))))) (lt-ltb 4096 (slots + length (places_of (i ∷ []))) many)

pub one_more : (number slots : ℕ) (i : Insn) (before : List Insn) (rest : ℕ → Result (List Insn) AsmFault) (total : Result (List Insn) AsmFault)
    → slots + length (places_of (i ∷ [])) ≤ 4096 → prefixed before (by_line number slots (Ok (Some i)) rest) ≡ total →
    prefixed (before ++ i ∷ []) (rest (slots + length (places_of (i ∷ [])))) ≡ total
one_more number slots i before rest total few h =
    sym (prefixed_first before i (rest (slots + length (places_of (i ∷ [])))))
    ∙ sym (ap (λ (b : Bool). prefixed before (if b then Err (TooLong number) else first_then i (rest (slots + length
    (places_of (i ∷ [])))))) (le-ltb 4096 (slots + length (places_of (i ∷ []))) few))
    ∙ h

pub at_end : (ls : List (List ℕ)) (number slots k : ℕ) (before : List Insn) (total : Result (List Insn) AsmFault) → number ≡ k → k ≡ length ls
    → prefixed before (insns_from (number + 1) slots (drop number ls)) ≡ total → total ≡ Ok before
at_end ls number slots k before total is end h =
    sym h ∙ ap (prefixed before) (at_drop_all (insns_from (number + 1) slots) ls number (omega (arith, is, end))) ∙ ap Ok (append-nil before)
