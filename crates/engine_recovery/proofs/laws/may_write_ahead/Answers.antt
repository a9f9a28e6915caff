use Rattle.engine_recovery.proofs.BatchLemmas.{all_noted, since, anew_tells}
use Rattle.engine_recovery.proofs.TurnLemmas.{telling, whole_engine, whole_turn}
use Rattle.engine_recovery.proofs.laws.may_write_ahead.Goals as goal

pub returns-clause-tells : goal.returns-clause-tells
returns-clause-tells c h f p ps few legal starts behind are numbers rows notes = telling h f p ps few legal starts behind are numbers rows notes

pub returns-clause-whole : goal.returns-clause-whole
returns-clause-whole c h f w lived tells = whole_engine h f w lived tells

pub returns-clause-met : goal.returns-clause-met
returns-clause-met c h f y w v x o lived goes honest no_crash legal good tells =
    whole_turn h f y w v x o lived (record { legal = legal; good = good }) honest no_crash goes tells

pub returns-clause-batch : goal.returns-clause-batch
returns-clause-batch c h f w v b tells new = since h f w v b tells new

pub returns-clause-anew : goal.returns-clause-anew
returns-clause-anew c h v before numbers b is small less fits rows notes = anew_tells h v before numbers b is small less fits rows notes

pub returns-clause-notes : goal.returns-clause-notes
returns-clause-notes c known notes same = all_noted known notes same
