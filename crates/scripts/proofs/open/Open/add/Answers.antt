use Rattle.std.proofs.Common.{arith, rules, ◌≡◌, ◌++◌, ◌∷◌, [], List, length, ap, ◌∙◌}
use Rattle.bpf_encoding.specs.Spelling.{places_of}
use Rattle.bpf_encoding.specs.declared.insn.Insn.{Insn}
use Rattle.bpf_asm.proofs.Assembling.{slots_more}
use Rattle.scripts.proofs.open.Open.add.Goals as goal

pub invariant_of-self-2 : goal.invariant_of-self-2
invariant_of-self-2 c =
    let insns = c.self.inside.insns.items in
    let pushed : c.push.new.self.items ≡ insns ++ c.args.insn ∷ [] = search rules in
    let size = ap (λ (is : List Insn). length (places_of is)) pushed ∙ slots_more insns c.args.insn in
    let wide = c.slots.ensures.value in (omega (arith, size, wide, c.self.invariant.0), omega (arith, c.if-size-gt-MOST_SLOTS.false))
