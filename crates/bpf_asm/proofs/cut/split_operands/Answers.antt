use Rattle.std.proofs.Common.{rules, tests, arith, ◌≡◌, ◌<◌, ◌==◌, ℕ, Bool, false, List, [], map, length, refl, sym, ap, ◌∙◌, if◌then◌else◌}
use Rattle.std.specs.List.{slice_split}
use Rattle.std.proofs.lemmas.Iterator.Consumers.{YieldsList-turn, YieldsList-end}
use Rattle.std.proofs.lemmas.Iterator.Splits.{YieldsList-from_slice_split}
use Rattle.std.proofs.lemmas.List.{length-map, length_push}
use Rattle.bpf_asm.specs.Cutting.{trim, is_empty, operand_texts, first_three}
use Rattle.bpf_asm.proofs.Cuts.{put_more, each_text}
use Rattle.bpf_asm.proofs.cut.split_operands.Goals as goal

-- where the rest isn't blank, its operands are its trimmed parts
cut_up : (rest : List ℕ) → is_empty (trim rest) ≡ false → operand_texts rest ≡ map trim (slice_split (λ b. b == 44) rest)
cut_up rest some = ap (λ (b : Bool). if b then [] else map trim (slice_split (λ b. b == 44) rest)) some

pub returns-then-count-eq3-clause-none : goal.returns-then-count-eq3-clause-none
returns-then-count-eq3-clause-none c =
    let rest = c.args.rest.now in
    let t = YieldsList-turn (YieldsList-from_slice_split _ (λ b. b == 44) rest (cc) (cc) (cc) (λ x b q k. search (
      rules,
      tests,
    ))) c.parts.yielded _ c.parts.yielded_by _ _ c.in-Some.part c.in-Some.is c.next.ensures.steps in
    let some : is_empty (trim rest) ≡ false = search (rules, tests) in
    let n = ap length (cut_up rest some) ∙ length-map (slice_split (λ b. b == 44) rest) trim in
    omega (arith, t.0, n, c.parts.invariant.2)

pub parts-preserved : goal.parts-preserved
parts-preserved c =
    let i = c.parts.invariant in
    let few : c.parts.count < 3 = search (rules, tests) in
    let more = put_more c.parts.texts c.parts.count c.parts.yielded c.in-Some.part c.trim-in-parts.result i.2 few c.trim-in-parts.ensures i.4 in
    let n = length_push c.parts.yielded c.in-Some.part in
    search (rules, more, n)

pub returns-clause-some : goal.returns-clause-some
returns-clause-some c =
    let rest = c.args.rest.now in
    let t = YieldsList-end (YieldsList-from_slice_split _ (λ b. b == 44) rest (cc) (cc) (cc) (λ x b q k. search (
      rules,
      tests,
    ))) c.parts.yielded _ c.parts.yielded_by _ _ c.in-None.is c.next.ensures.steps in
    let some : is_empty (trim rest) ≡ false = search (rules, tests) in
    let i = c.parts.invariant in
    let cut = cut_up rest some in
    let same = i.4 ∙ ap (λ (ts : List (List ℕ)). first_three (map trim ts)) t.0 ∙ ap first_three (sym cut) in
    let at = each_text c.parts.texts _ (operand_texts rest) refl same in
    (at 0, at 1, at 2, i.2 ∙ t.1 ∙ sym (ap length cut ∙ length-map (slice_split (λ b. b == 44) rest) trim))
