use Rattle.tc_log.specs.Entered.{seen}
use Rattle.history.proofs.Placing.{placed}
use Rattle.tc_core.proofs.checking.event_at.Goals as goal

pub returns : goal.returns
returns c = placed c.args.log.now.events c.args.place (seen c.entry.result) c.entry.ensures.there
