use Rattle.std.proofs.Common.{rules, arith, ◌≡◌, ◌+◌, ◌≤◌, Ok, Err, List, [], ◌∷◌, ◌++◌, length, sym, ap, ◌∙◌}
use Rattle.std.specs.Prelude.{Some, None}
use Rattle.std.specs.Str.Lines.{lines}
use Rattle.std.proofs.lemmas.List.{length_push}
use Rattle.std.proofs.lemmas.Iterator.Consumers.{YieldsList-turn, YieldsList-end}
use Rattle.std.proofs.lemmas.Iterator.Splits.{YieldsList-from_lines}
use Rattle.bpf_encoding.specs.Spelling.{places_of}
use Rattle.bpf_encoding.specs.declared.insn.Insn.{Insn}
use Rattle.bpf_asm.proofs.Assembling.{going_on, too_long, one_more, at_end, slots_more, later}
use Rattle.bpf_asm.proofs.assemble.insns_of.Goals as goal

pub lines-preserved-in-Ok-None : goal.lines-preserved-in-Ok-None
lines-preserved-in-Ok-None c =
    let i = c.lines.invariant in
    let t = YieldsList-turn (YieldsList-from_lines c.args.text.now (cc)) c.lines.yielded _ c.lines.yielded_by _ _ c.in-Some.line c.in-Some.is c.next.ensures.steps in
    let n = length_push c.lines.yielded c.in-Some.line in (
      tt,
      tt,
      omega (arith, i.2, n),
      i.3,
      i.4,
      going_on (lines c.args.text.now) c.lines.number c.lines.slots (length
          c.lines.yielded) c.in-Some.line.now (Ok None) c.lines.insns.items _ i.2 t (search rules) i.5,
    )

pub returns-in-Err-clause-err : goal.returns-in-Err-clause-err
returns-in-Err-clause-err c =
    let i = c.lines.invariant in
    let t = YieldsList-turn (YieldsList-from_lines c.args.text.now (cc)) c.lines.yielded _ c.lines.yielded_by _ _ c.in-Some.line c.in-Some.is c.next.ensures.steps in
    sym (going_on (lines c.args.text.now) c.lines.number c.lines.slots (length c.lines.yielded) c.in-Some.line.now (Err c.in-Err.fault) c.lines.insns.items _ i.2 t (search rules) i.5)

pub returns-then-slots-gt-MOST_SLOTS-clause-err : goal.returns-then-slots-gt-MOST_SLOTS-clause-err
returns-then-slots-gt-MOST_SLOTS-clause-err c =
    let i = c.lines.invariant in
    let t = YieldsList-turn (YieldsList-from_lines c.args.text.now (cc)) c.lines.yielded _ c.lines.yielded_by _ _ c.in-Some.line c.in-Some.is c.next.ensures.steps in
    let on = going_on (lines c.args.text.now) c.lines.number c.lines.slots (length c.lines.yielded) c.in-Some.line.now (Ok (Some c.in-Ok-Some.insn)) c.lines.insns.items _ i.2 t (search rules) i.5 in
    too_long (c.lines.number + 1) c.lines.slots c.in-Ok-Some.insn c.lines.insns.items (later (lines c.args.text.now)
    c.lines.number) _ (omega (arith, c.if-slots-gt-MOST_SLOTS.true, c.slots-slots.ensures.value)) on

pub lines-preserved : goal.lines-preserved
lines-preserved c =
    let i = c.lines.invariant in
    let t = YieldsList-turn (YieldsList-from_lines c.args.text.now (cc)) c.lines.yielded _ c.lines.yielded_by _ _ c.in-Some.line c.in-Some.is c.next.ensures.steps in
    let n = length_push c.lines.yielded c.in-Some.line in
    let on = going_on (lines c.args.text.now) c.lines.number c.lines.slots (length c.lines.yielded) c.in-Some.line.now (Ok (Some c.in-Ok-Some.insn)) c.lines.insns.items _ i.2 t (search rules) i.5 in
    let wide = c.slots-slots.ensures.value in
    let few : c.lines.slots + length (places_of (c.in-Ok-Some.insn ∷ [])) ≤ 4096 = omega (arith, c.if-slots-gt-MOST_SLOTS.false, wide) in
    let more = one_more (c.lines.number + 1) c.lines.slots c.in-Ok-Some.insn c.lines.insns.items (later (lines c.args.text.now) c.lines.number) _ few on in
    let pushed : c.push.new.self.items ≡ c.lines.insns.items ++ c.in-Ok-Some.insn ∷ [] = search rules in
    let size = ap (λ (xs : List Insn). length (places_of xs)) pushed ∙ slots_more c.lines.insns.items c.in-Ok-Some.insn in
    (tt, tt, omega (arith, i.2, n), omega (arith, i.3, wide, size), omega (arith, few, wide), rw (pushed, wide) more)

pub returns-clause-ok : goal.returns-clause-ok
returns-clause-ok c =
    let i = c.lines.invariant in
    let t = YieldsList-end (YieldsList-from_lines c.args.text.now (cc)) c.lines.yielded _ c.lines.yielded_by _ _ c.in-None.is c.next.ensures.steps in
    at_end (lines c.args.text.now) c.lines.number c.lines.slots (length c.lines.yielded) c.lines.insns.items _ i.2 t.1 i.5
