use Rattle.std.proofs.Common.{refl}
use Rattle.embedding.specs.Gathering.{NoRoom}
use Rattle.embedding.proofs.gathered.Gathered.more_slots.Goals as goal

pub returns-in-Err-clause-why : goal.returns-in-Err-clause-why
returns-in-Err-clause-why c = λ _.
    let f = c.args.frame.now in
    NoRoom refl (record { mode = c.in-Some.mode; dc = f.dc; table = f.table; key = c.in-Some-key_of.key })
    (record { mode = c.in-Some.ensures.some; dc = refl; table = refl; key = c.in-Some-key_of.ensures.some }) c.in-Err.ensures.full
