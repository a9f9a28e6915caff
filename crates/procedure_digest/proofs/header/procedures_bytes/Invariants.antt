use Rattle.std.proofs.Common.{◌≡◌, take}
use Rattle.procedure_digest.specs.Bytes.{procedures_bytes}
use Rattle.procedure_digest.proofs.header.procedures_bytes.Given as goal

abbrev pub invariant-procedures : goal.invariant-procedures
invariant-procedures l = l.out.items ≡ procedures_bytes (take l.number l.procs.codes)
