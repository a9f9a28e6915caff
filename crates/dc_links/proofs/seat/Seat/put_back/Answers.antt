use Rattle.std.proofs.Common.{rules}
use Rattle.dc_links.proofs.Seated.{puts_back}
use Rattle.dc_links.proofs.seat.Seat.put_back.Goals as goal

pub store-requires : goal.store-requires
store-requires c = (c.requires.own, search rules, puts_back _ _ _ c.requires.held)
