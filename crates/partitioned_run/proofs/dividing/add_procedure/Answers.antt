use Rattle.std.proofs.Common.{sym}
use Rattle.partitioned_run.proofs.DividingLemmas.{added}
use Rattle.partitioned_run.proofs.dividing.add_procedure.Goals as goal

pub returns : goal.returns
returns c =
    added c.args.procs.now.dcs c.args.procs.now.codes c.args.number c.in-Some.code.now c.decl.result.now c.args.partitions.now c.add.new.self
    c.known.ensures.reach (sym c.in-Some.ensures) c.decl.ensures c.add.ensures
