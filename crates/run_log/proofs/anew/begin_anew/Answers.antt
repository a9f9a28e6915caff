use Rattle.run_log.proofs.anew.begin_anew.Goals as goal

pub returns-in_ok-bar_of-in-Err-clause-goes : goal.returns-in_ok-bar_of-in-Err-clause-goes
returns-in_ok-bar_of-in-Err-clause-goes g c = (
  c.in-Err.ensures.state,
  c.in-Err.ensures.dcs,
  c.in_ok-bar_of-in-Err.ensures.bar c.args.state.now c.args.dcs.now.items c.in-Err.ensures.why,
)
