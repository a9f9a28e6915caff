use Rattle.std.proofs.Common.{rules}
use Rattle.dc_links.proofs.Seated.{rises}
use Rattle.dc_links.proofs.seat.Seat.rise.Goals as goal

pub swap-requires : goal.swap-requires
swap-requires g c = (search rules, search rules, rises _ _ _ c.requires.sits.0 (search rules))
