use Rattle.std.proofs.Common.{rules}
use Rattle.bpf_asm.proofs.Cuts.{before_at, before_none}
use Rattle.bpf_asm.proofs.cut.before.Goals as goal

pub returns-in-Some : goal.returns-in-Some
returns-in-Some c = before_at c.args.byte c.args.text.now c.in-Some.end (search rules) (search rules) (search rules)

pub returns-in-None : goal.returns-in-None
returns-in-None c = before_none c.args.byte c.args.text.now (search rules)
