use Rattle.log_command.proofs.ReportLemmas.{listed_is}
use Rattle.log_command.proofs.listing.listing.Goals as goal

pub returns-in-Ok : goal.returns-in-Ok
returns-in-Ok c = listed_is c.args.part c.args.rows c.args.file.now c.in-Ok.stored c.listed.result c.in-Ok.ensures.says
    c.listed.ensures.lines c.listed.ensures.status
