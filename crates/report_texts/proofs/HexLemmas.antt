-- How reading a hex text goes on.
use Rattle.std.proofs.Common.{◌≡◌, ℕ, suc, ◌+◌, ◌<◌, ◌≤◌, Bool, true, false, Option, Some, None, Ok, Err, List, []}
use Rattle.std.proofs.Common.{◌∷◌, ◌++◌, length, drop, get_or, cond, refl, sym, ap, ◌∙◌, arith, append_assoc, add-one}
use Rattle.std.proofs.Math.Seq.{drop-cons}
use Rattle.std.proofs.lemmas.List.{append-nil, nil_from_length, length-drop}
use Rattle.report_texts.specs.Hex.{Hex, is_blank, pair_of, not_hex, said_first, or_not_hex, hex_from, said_before}

hex_from-blank : (at b : ℕ) (rest : List ℕ) → is_blank b ≡ true → hex_from at (b ∷ rest) ≡ hex_from (suc at) rest
hex_from-blank at b [] h = ap (λ (t : Bool). cond t (Ok []) (not_hex at)) h
hex_from-blank at b (d ∷ rest) h = ap (λ (t : Bool). cond t (hex_from (suc at) (d ∷ rest)) (or_not_hex at (pair_of b d) (hex_from (suc (suc at)) rest))) h

hex_from-pair : (at b d : ℕ) (rest : List ℕ) (o : Option ℕ) → is_blank b ≡ false → pair_of b d ≡ o
    → hex_from at (b ∷ d ∷ rest) ≡ or_not_hex at o (hex_from (suc (suc at)) rest)
hex_from-pair at b d rest o h e =
    ap (λ (t : Bool). cond t (hex_from (suc at) (d ∷ rest)) (or_not_hex at (pair_of b d) (hex_from (suc (suc at))
    rest))) h ∙ ap (λ (p : Option ℕ). or_not_hex at p (hex_from (suc (suc at)) rest)) e

said_before-append : (before : List ℕ) (byte : ℕ) (h : Hex) → said_before (before ++ byte ∷ []) h ≡ said_before before (said_first byte h)
said_before-append before byte (Ok bytes) = ap (λ (bs : List ℕ). Ok bs) (append_assoc before (byte ∷ []) bytes)
said_before-append before byte (Err at) = refl

opened : (text : List ℕ) (at : ℕ) → at < length text → drop at text ≡ get_or text at 0 ∷ drop (at + 1) text
opened text at lt = drop-cons text at 0 lt ∙ ap (λ (n : ℕ). get_or text at 0 ∷ drop n text) (sym (add-one at))

pub blank_on : (text before : List ℕ) (at : ℕ) (total : Hex) → at < length text → is_blank (get_or text at 0) ≡ true
    → said_before before (hex_from at (drop at text)) ≡ total
    → said_before before (hex_from (at + 1) (drop (at + 1) text)) ≡ total
blank_on text before at total lt h so_far =
    ap (said_before before) (ap (λ (n : ℕ). hex_from n (drop (at + 1) text)) (add-one at)
    ∙ sym (hex_from-blank at (get_or text at 0) (drop (at + 1) text) h) ∙ ap (hex_from at) (sym (opened text at lt))) ∙ so_far

two : (text : List ℕ) (at : ℕ) → at + 1 < length text → drop at text ≡ get_or text at 0 ∷ get_or text (at + 1) 0 ∷ drop (at + 2) text
two text at lt =
    let n : at + 1 + 1 ≡ at + 2 = omega arith in
    opened text at (omega arith) ∙ ap (λ (bs : List ℕ). get_or text at 0 ∷ bs) (opened text (at + 1) lt ∙ ap (λ (k : ℕ). get_or text (at + 1) 0 ∷ drop k text) n)

pub pair_on : (text before : List ℕ) (at byte : ℕ) (total : Hex) → at + 1 < length text
    → is_blank (get_or text at 0) ≡ false → pair_of (get_or text at 0) (get_or text (at + 1) 0) ≡ Some byte
    → said_before before (hex_from at (drop at text)) ≡ total → said_before (before ++ byte ∷ []) (hex_from (at + 2) (drop (at + 2) text)) ≡ total
pair_on text before at byte total lt h e so_far =
    let n : at + 2 ≡ suc (suc at) = omega arith in
    said_before-append before byte (hex_from (at + 2) (drop (at + 2) text))
    ∙ ap (said_before before) (ap (λ (k : ℕ). said_first byte (hex_from k (drop (at + 2) text))) n
    ∙ sym (hex_from-pair at (get_or text at 0) (get_or text (at + 1) 0) (drop (at + 2) text) (Some byte) h e) ∙ ap (hex_from at) (sym (two text at lt)))
    ∙ so_far

pub no_pair : (text before : List ℕ) (at : ℕ) (total : Hex) → at + 1 < length text
    → is_blank (get_or text at 0) ≡ false → pair_of (get_or text at 0) (get_or text (at + 1) 0) ≡ None
    → said_before before (hex_from at (drop at text)) ≡ total → total ≡ not_hex at
no_pair text before at total lt h e so_far =
    sym so_far ∙ ap (said_before before) (ap (hex_from at) (two text at lt) ∙ hex_from-pair at (get_or text at 0) (get_or text (at + 1) 0) (drop (at + 2) text) None h e)

pub lone_digit : (text before : List ℕ) (at : ℕ) (total : Hex) → at < length text → length text ≤ at + 1
    → is_blank (get_or text at 0) ≡ false → said_before before (hex_from at (drop at text)) ≡ total
    → total ≡ not_hex at
lone_digit text before at total lt le h so_far =
    let none : drop (at + 1) text ≡ [] = nil_from_length (drop (at + 1) text) (omega (arith, length-drop (at + 1) text)) in
    sym so_far
    ∙ ap (said_before before) (ap (hex_from at) (opened text at lt ∙ ap (λ (bs : List ℕ). get_or text at 0 ∷ bs) none) ∙ ap (λ (t : Bool). cond t (Ok []) (not_hex at)) h)

pub all_read : (text before : List ℕ) (at : ℕ) (total : Hex) → length text ≤ at
    → said_before before (hex_from at (drop at text)) ≡ total → total ≡ Ok before
all_read text before at total le so_far =
    let none : drop at text ≡ [] = nil_from_length (drop at text) (omega (arith, length-drop at text)) in
    sym so_far ∙ ap (λ (bs : List ℕ). said_before before (hex_from at bs)) none ∙ ap (λ (bs : List ℕ). Ok bs) (append-nil before)
