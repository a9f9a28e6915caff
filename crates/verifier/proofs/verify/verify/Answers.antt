use Rattle.std.proofs.Common.{◌≡◌, ◌≤◌, List, length, ap, subst, sym, ◌∙◌, arith, rules}
use Rattle.bpf_encoding.specs.declared.insn.Place.{Place}
use Rattle.semantics.specs.Instruction.{program_of}
use Rattle.semantics.specs.Reach.{IsSafe}
use Rattle.verifier.specs.Verdict.{verdict}
use Rattle.verifier.proofs.Run.{accepted_is_safe}
use Rattle.verifier.proofs.verify.verify.Goals as goal

pub returns-in-Ok-clause-safe : goal.returns-in-Ok-clause-safe
returns-in-Ok-clause-safe c =
    let args : c.args.decl.args ≤ 8 = (let e = c.args-2.ensures.value in let few = c.args-2.ensures.few in omega (arith, e, few)) in
    let slots : length c.args.decl.slots ≤ 16 = search rules in
    let nothing = ap (verdict c.args.decl) (sym c.places.ensures.value) ∙ c.in_ok-check.ensures.ok in
    accepted_is_safe c.args.code c.args.decl (record { whole = c.places.ensures.code; nothing = nothing; few_args = args; few_slots = slots })
