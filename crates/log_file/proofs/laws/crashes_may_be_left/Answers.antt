use Rattle.log_file.proofs.ReplacementLemmas.{crashes_may_be_left}
use Rattle.log_file.proofs.laws.crashes_may_be_left.Goals as goal

pub returns : goal.returns
returns c = crashes_may_be_left
