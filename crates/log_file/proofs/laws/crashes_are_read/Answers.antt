use Rattle.log_file.proofs.LawLemmas.{crashes_are_read}
use Rattle.log_file.proofs.laws.crashes_are_read.Goals as goal

pub returns : goal.returns
returns c = crashes_are_read
