use Rattle.procedure_digest.proofs.ProcedureLemmas.{procedures_same}
use Rattle.procedure_digest.proofs.laws.procedures_tell.Goals as goal

pub returns : goal.returns
returns c = procedures_same
