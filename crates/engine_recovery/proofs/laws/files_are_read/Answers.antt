use Rattle.engine_recovery.proofs.ReadingLemmas.{at_rest, while_writing}
use Rattle.engine_recovery.proofs.laws.files_are_read.Goals as goal

pub returns-clause-at_rest : goal.returns-clause-at_rest
returns-clause-at_rest c h bytes f g p q tells reads read = at_rest h bytes f g p q tells reads read

pub returns-clause-while_writing : goal.returns-clause-while_writing
returns-clause-while_writing c h bytes f g b p next q tells more cut read = while_writing h bytes f g b p next q tells more cut read
