use Rattle.dc_links.proofs.Seated.{still_held}
use Rattle.dc_links.proofs.seat.Seat.try_perform_all.Goals as goal

pub put_back-requires-clause-held : goal.put_back-requires-clause-held
put_back-requires-clause-held g c =
    let there = c.perform_all_there-is_there in
    still_held c.in-Some.pass.me c.slot_mut.result.now there.new.there c.in-Some.ensures.held c.slot_mut.ensures.value there.ensures
