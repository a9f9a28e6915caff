use Rattle.log_file.proofs.LawLemmas.{legal_logs_are_read}
use Rattle.log_file.proofs.laws.legal_logs_are_read.Goals as goal

pub returns : goal.returns
returns c = legal_logs_are_read
