use Rattle.log_file.proofs.LawLemmas.{acknowledged_are_read}
use Rattle.log_file.proofs.laws.acknowledged_are_read.Goals as goal

pub returns : goal.returns
returns c = acknowledged_are_read
