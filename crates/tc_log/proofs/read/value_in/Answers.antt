use Rattle.std.proofs.Common.{◌∙◌}
use Rattle.tc_log.proofs.Again.{rest_is}
use Rattle.tc_log.proofs.read.value_in.Goals as goal

pub returns-clause-value : goal.returns-clause-value
returns-clause-value c = c.copy_from_slice.ensures.after ∙ rest_is c.args.bytes.now
