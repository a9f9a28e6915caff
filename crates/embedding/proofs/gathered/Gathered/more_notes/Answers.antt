use Rattle.std.proofs.Common.{refl}
use Rattle.embedding.specs.Gathering.{NoRoom}
use Rattle.embedding.proofs.gathered.Gathered.more_notes.Goals as goal

pub returns-in-Err-clause-why : goal.returns-in-Err-clause-why
returns-in-Err-clause-why c = λ _. NoRoom refl c.in-Some.note c.in-Some.ensures.some c.in-Err.ensures.full
