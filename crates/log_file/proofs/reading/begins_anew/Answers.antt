use Rattle.std.proofs.Common.{◌∙◌, reverse, sym}
use Rattle.tc_log.specs.Entered.{seen}
use Rattle.log_file.proofs.OpeningLemmas.{first_is, none_first}
use Rattle.log_file.proofs.reading.begins_anew.Goals as goal

pub returns-in-Some : goal.returns-in-Some
returns-in-Some c = c.is_checkpoint.ensures ∙ first_is (reverse c.args.log.now.events) (seen c.in-Some.event) (sym c.in-Some.ensures)

pub returns-in-None : goal.returns-in-None
returns-in-None c = none_first (reverse c.args.log.now.events) (sym c.in-None.ensures)
