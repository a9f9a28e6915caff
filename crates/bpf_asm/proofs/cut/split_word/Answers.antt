use Rattle.std.proofs.Common.{rules, sym}
use Rattle.std.proofs.Math.Seq.{take-length, drop-length}
use Rattle.bpf_asm.specs.Cutting.{is_blank}
use Rattle.bpf_asm.proofs.Cuts.{first_at, first_none}
use Rattle.bpf_asm.proofs.cut.split_word.Goals as goal

pub returns-in-Some : goal.returns-in-Some
returns-in-Some c =
    let found = first_at is_blank c.args.text.now c.in-Some.end (search rules) (search rules) (search rules) in
    rw found (search rules)

pub returns-in-None : goal.returns-in-None
returns-in-None c =
    let none = first_none is_blank c.args.text.now (search rules) in
    rw none (sym (take-length c.args.text.now), sym (drop-length c.args.text.now))
