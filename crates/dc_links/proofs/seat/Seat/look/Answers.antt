use Rattle.std.proofs.Common.{rules}
use Rattle.dc_links.proofs.Seated.{comes}
use Rattle.dc_links.proofs.seat.Seat.look.Goals as goal

pub swap_new_seat-found-requires : goal.swap_new_seat-found-requires
swap_new_seat-found-requires c = (search rules, comes _)
