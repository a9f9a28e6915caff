use Rattle.std.proofs.Common.{rules, ap}
use Rattle.dc_links.proofs.Seated.{in_hands}
use Rattle.dc_links.proofs.seat.Seat.leave.Goals as goal

pub exchange-requires : goal.exchange-requires
exchange-requires g c = (search rules, in_hands _ _ (ap (λ m. m.1) c.rise.ensures.risen.3))
