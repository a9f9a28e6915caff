-- Code is the places of its instructions.
use Rattle.std.proofs.Common.{◌≡◌, ◌∙◌, ◌<◌, ◌≤◌, ℕ, suc, ◌+◌, Bool, true, false, List, [], ◌∷◌, ◌++◌, length, get_or, drop, sym, refl, ap, arith}
use Rattle.std.proofs.Common.{append_assoc, add-one}
use Rattle.std.proofs.lemmas.List.{append-nil, nil_from_length, length-drop}
use Rattle.std.proofs.Math.Seq.{drop-cons}
use Rattle.bpf_encoding.specs.declared.insn.Insn.{Insn}
use Rattle.bpf_encoding.specs.declared.insn.Place.{Place}
use Rattle.bpf_encoding.specs.declared.insn.Place.TheVariants as place
use Rattle.bpf_encoding.specs.Spelling.{is_wide, is_whole, places_from, places_of}
use Rattle.script_loading.specs.Joining.Copies.{insns_in}

-- ---- the next place is looked at

insns_cons : (p : Place) (places : List Place) → insns_in (p ∷ []) ++ insns_in places ≡ insns_in (p ∷ places)
insns_cons (place.Insn i) places = refl
insns_cons place.Second places = refl

pub insns_go_on : (k : ℕ) (places : List Place) (d : Place) (insns total : List Insn) → k < length places → insns ++ insns_in (drop k places) ≡ total
    → (insns ++ insns_in (get_or places k d ∷ [])) ++ insns_in (drop (k + 1) places) ≡ total
insns_go_on k places d insns total lt so_far =
    let p = get_or places k d in
    let rest = drop (suc k) places in
    ap (λ (n : ℕ). (insns ++ insns_in (p ∷ [])) ++ insns_in (drop n places)) (add-one k)
    ∙ append_assoc insns (insns_in (p ∷ [])) (insns_in rest)
    ∙ ap (λ (is : List Insn). insns ++ is) (insns_cons p rest)
    ∙ ap (λ (ps : List Place). insns ++ insns_in ps) (sym (drop-cons places k d lt))
    ∙ so_far

pub insns_done : (k : ℕ) (places : List Place) (insns total : List Insn) → length places ≤ k → insns ++ insns_in (drop k places) ≡ total → insns ≡ total
insns_done k places insns total le so_far =
    let done : drop k places ≡ [] = nil_from_length (drop k places) (omega (arith, length-drop k places)) in
    sym (append-nil insns) ∙ ap (λ (ps : List Place). insns ++ insns_in ps) (sym done) ∙ so_far

-- ---- a whole row of places is that of its instructions

whole_again : (due : Bool) (places : List Place) → is_whole due places ≡ true → places_from due (places_of (insns_in places)) ≡ places
whole_again false [] whole = refl
whole_again true [] whole = absurd (cc)
whole_again false (place.Insn i ∷ places) whole = ap (λ (ps : List Place). place.Insn i ∷ ps) (whole_again (is_wide i) places whole)
whole_again true (place.Insn i ∷ places) whole = absurd (cc)
whole_again false (place.Second ∷ places) whole = absurd (cc)
whole_again true (place.Second ∷ places) whole = ap (λ (ps : List Place). place.Second ∷ ps) (whole_again false places whole)

pub code_is : (places : List Place) (insns : List Insn) → insns ≡ insns_in places → is_whole false places ≡ true → places_of insns ≡ places
code_is places insns is whole = ap places_of is ∙ whole_again false places whole
