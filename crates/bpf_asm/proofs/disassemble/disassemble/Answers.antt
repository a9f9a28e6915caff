use Rattle.std.proofs.Common.{◌≡◌, ◌++◌, ◌∙◌, ap, sym, subst, take, List, ℕ}
use Rattle.std.specs.Prelude.{string_bytes}
use Rattle.std.proofs.lemmas.List.{take_all, take_more, at_drop_more, at_drop_all, append_assoc, append-nil}
use Rattle.bpf_asm.specs.Lines.{assembled}
use Rattle.bpf_asm.specs.Parts.{text_of}
use Rattle.bpf_asm.proofs.Lines.{AllOperands, assembled_again, one_place_more}
use Rattle.bpf_asm.proofs.disassemble.disassemble.Goals as goal

text_more : (old new one rest whole total : List ℕ) → new ≡ old ++ one → whole ≡ one ++ rest → old ++ whole ≡ total → new ++ rest ≡ total
text_more old new one rest whole total a b h = ap (λ (t : List ℕ). t ++ rest) a ∙ append_assoc old one rest ∙ ap (λ (t : List ℕ). old ++ t) (sym b) ∙ h

pub loop-place-preserved : goal.loop-place-preserved
loop-place-preserved c =
    let items = c.places-place-items.result.now in
    let inside = c.loop-place-test.true in (
      text_more _ _ _ _ _ _ c.in_ok-write_place.ensures.text (at_drop_more text_of items c.loop-place.place-index _ inside) c.loop-place.invariant.0,
      subst AllOperands (sym (take_more items c.loop-place.place-index _ inside)) (one_place_more (take c.loop-place.place-index items) _ c.loop-place.invariant.1 c.write_place.ensures.fits),
    )

pub returns-clause-says : goal.returns-clause-says
returns-clause-says c =
    let items = c.places-place-items.result.now in
    let whole = take_all c.loop-place.place-index items c.loop-place-test.false in
    let fits : AllOperands items = subst AllOperands whole c.loop-place.invariant.1 in
    let is = c.places-place-items.ensures.value in
    let written = string_bytes c.loop-place.text in
    let text : written ≡ text_of c.args.code.now =
    sym (append-nil written) ∙ ap (λ (t : List ℕ). written ++ t) (sym (at_drop_all text_of items
    c.loop-place.place-index c.loop-place-test.false)) ∙ c.loop-place.invariant.0 ∙ ap text_of is in
    ap assembled text ∙ assembled_again c.args.code.now c.places-place-items.ensures.code (subst AllOperands is fits)
