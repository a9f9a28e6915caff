use Rattle.log_file.proofs.HeaderLemmas.{headers_tell}
use Rattle.log_file.proofs.laws.headers_tell.Goals as goal

pub returns : goal.returns
returns c = headers_tell
