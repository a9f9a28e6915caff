use Rattle.std.proofs.Common.{rules, arith, ◌<◌, length, sym, ap, ◌∙◌, take, drop, ℕ}
use Rattle.std.proofs.lemmas.Bool.Decides.{nat_tests}
use Rattle.bpf_asm.specs.Operand.{is_sign}
use Rattle.bpf_asm.proofs.Cuts.{first_at, first_none}
use Rattle.bpf_asm.proofs.operand.split_at_sign.Goals as goal

pub returns-in_err-cut-clause-none : goal.returns-in_err-cut-clause-none
returns-in_err-cut-clause-none c =
    let none = first_none is_sign c.args.text.now (search rules) in
    search (rules, none)

pub returns-clause-some : goal.returns-clause-some
returns-clause-some c =
    let inside : c.in_ok-cut.cut < length c.args.text.now = search rules in
    let found = first_at is_sign c.args.text.now c.in_ok-cut.cut inside (search rules) (search rules) in
    (grind (arith, nat_tests), c.split_at.ensures.front ∙ ap (λ (n : ℕ). take n c.args.text.now) (sym found), c.split_at.ensures.back ∙ ap (λ (n : ℕ). drop n c.args.text.now) (sym found))
