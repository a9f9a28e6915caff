use Rattle.std.proofs.Common.{rules}
use Rattle.procedure_digest.proofs.WritingLemmas.{procedures_more}
use Rattle.procedure_digest.proofs.header.procedures_bytes.Goals as goal

pub procedures-preserved : goal.procedures-preserved
procedures-preserved c =
    procedures_more c.args.procs.now.codes c.procedures.number c.in-Some.procedure.now c.procedures.out.items c.write_procedure.new.out.items (search rules) c.procedures.invariant
    (search rules)
