use Rattle.std.proofs.Common.{◌≡◌, true, false, List, arith, ap}
use Rattle.std.specs.Prelude.{slice_get}
use Rattle.access_slots.specs.declared.op.Wire.{Wire}
use Rattle.tc_world.specs.Recovery.{IsWrittenFor}
use Rattle.tc_world.proofs.ComingBack.{all_at}
use Rattle.engine_recovery.specs.Telling.{Contents}
use Rattle.engine_recovery.proofs.ExampleLemmas.{none_begins}
use Rattle.engine_recovery.proofs.examples.engines_that_do_not.Goals as goal

pub returns-clause-unwritten : goal.returns-clause-unwritten
returns-clause-unwritten c h x y e f w ws is above ahead =
    let told = all_at (IsWrittenFor f.written.events) f.world.copies 0 w (ap (λ (xs : List Wire). slice_get xs 0) is) ahead.ahead.wires in
    let number = told.number in
    omega (arith, number, above)

pub returns-clause-taken_back : goal.returns-clause-taken_back
returns-clause-taken_back c h x more e f other ahead = other (ap (λ (g : Contents). g.batches) ahead.file)

pub returns-clause-performed : goal.returns-clause-performed
returns-clause-performed c place w v taken = (let bad : false ≡ true = taken.0 in cc)

pub returns-clause-cut : goal.returns-clause-cut
returns-clause-cut c w v taken = (let bad : false ≡ true = taken.0 in cc)

pub returns-clause-not_logged : goal.returns-clause-not_logged
returns-clause-not_logged c h b e next w none some writes = some (none_begins next.events w.core.events writes.log none)
