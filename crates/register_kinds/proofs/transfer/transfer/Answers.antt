use Rattle.std.proofs.Common.{rules, ◌≡◌, Ok, ap, ◌∙◌}
use Rattle.register_kinds.proofs.Sound.{keeps_kinds}
use Rattle.register_kinds.proofs.transfer.transfer.Goals as goal

pub returns-in-Ok-clause-sound : goal.returns-in-Ok-clause-sound
returns-in-Ok-clause-sound c = keeps_kinds c.args.decl.now c.args.insn.now c.args.kinds.now (Ok c.ways.result) (ap Ok c.ways.ensures ∙ c.in-Ok.ensures)
