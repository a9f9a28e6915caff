use Rattle.log_file.proofs.LawLemmas.{read_as_written}
use Rattle.log_file.proofs.laws.read_as_written.Goals as goal

pub returns : goal.returns
returns c = read_as_written
