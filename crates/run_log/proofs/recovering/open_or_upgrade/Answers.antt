use Rattle.run_log.proofs.recovering.open_or_upgrade.Goals as goal

pub if_upgraded-requires : goal.if_upgraded-requires
if_upgraded-requires g c = rw c.in-Refused.is at (c.in_ok-opened.ensures c.args.dcs.now)

pub returns-in-Ready : goal.returns-in-Ready
returns-in-Ready g c = rw c.in-Ready.is at (c.in_ok-opened.ensures c.args.dcs.now)
