use Rattle.tc_world.proofs.WrittenLemmas.{fresh_written, stay_written, cut_written, wire_more, more_written}
use Rattle.tc_world.proofs.recovery.written_ahead.Goals as goal

pub returns-clause-fresh : goal.returns-clause-fresh
returns-clause-fresh c w notes fresh noted = fresh_written w notes fresh noted

pub returns-clause-step : goal.returns-clause-step
returns-clause-step c w v x o first more notes noted was legal goes honest grows written ready known =
    stay_written w v x o first more notes noted was legal goes honest grows written ready known

pub returns-clause-cut : goal.returns-clause-cut
returns-clause-cut c w v o first notes noted legal cut written known = cut_written w v o first notes noted legal cut written known

pub returns-clause-wire : goal.returns-clause-wire
returns-clause-wire c ps first more x legal begins ready = wire_more ps first more x legal begins ready

pub returns-clause-more : goal.returns-clause-more
returns-clause-more c w first more notes legal on in_log written = more_written w first more notes legal on in_log written
