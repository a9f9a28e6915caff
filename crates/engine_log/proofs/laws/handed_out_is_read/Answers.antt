use Rattle.engine_log.proofs.LawLemmas.{handed_out_is_read}
use Rattle.engine_log.proofs.laws.handed_out_is_read.Goals as goal

pub returns : goal.returns
returns c = handed_out_is_read
