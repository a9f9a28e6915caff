use Rattle.std.proofs.Common.{refl, arith}
use Rattle.run_command.proofs.FittingLemmas.{no_operations}
use Rattle.run_command.proofs.fitting.fitting.Goals as goal

pub calls-init : goal.calls-init
calls-init c = record { sum = refl; fit = no_operations c.args.dcs.now; few = omega arith }
