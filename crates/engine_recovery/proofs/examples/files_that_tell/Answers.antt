use Rattle.std.proofs.Common.{◌≡◌, List, [], ◌∷◌, reverse, sym, ◌∙◌, ap}
use Rattle.std.specs.List.{flat_map}
use Rattle.tc_log.specs.declared.event.Event.{Event}
use Rattle.tc_log.specs.Printed.{printed}
use Rattle.frame_file.proofs.Readings.{reads_one}
use Rattle.engine_recovery.specs.Telling.{payloads_in}
use Rattle.engine_recovery.proofs.ExampleLemmas.{begun_tells, begun_engine}
use Rattle.engine_recovery.proofs.examples.files_that_tell.Goals as goal

pub returns-clause-begun : goal.returns-clause-begun
returns-clause-begun c h = begun_tells h

pub returns-clause-fresh : goal.returns-clause-fresh
returns-clause-fresh c h rows ops = begun_engine h rows ops

pub returns-clause-rows : goal.returns-clause-rows
returns-clause-rows c h f p b bytes some none tells =
    let bad : [] ≡ b ∷ bytes = ap (λ (es : List Event). flat_map printed (reverse es)) (sym none) ∙ (tells.rows.prints ∙ some) in
    cc

pub returns-clause-notes : goal.returns-clause-notes
returns-clause-notes c h f p other tells = other tells.notes

pub returns-clause-other : goal.returns-clause-other
returns-clause-other c h bytes f p found reads other read = other (sym (reads_one bytes found (payloads_in h f) reads read.reads))
