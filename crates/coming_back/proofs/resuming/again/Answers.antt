use Rattle.std.proofs.Common.{sym, ◌∙◌}
use Rattle.coming_back.proofs.NextLemmas.{never_idle}
use Rattle.coming_back.proofs.resuming.again.Goals as goal

pub unreachable-requires : goal.unreachable-requires
unreachable-requires c = never_idle c.args.state.now c.args.txn.serial c.args.number c.requires (sym c.request.ensures.request ∙ c.in-None.is)
