use Rattle.dc_links.proofs.Seated.{still_held}
use Rattle.dc_links.proofs.seat.Seat.perform_held.Goals as goal

pub put_back-requires-clause-held : goal.put_back-requires-clause-held
put_back-requires-clause-held c =
    let there = c.perform_there-said in
    still_held c.args.pass.me c.slot_mut.result.now there.new.there c.requires.held c.slot_mut.ensures.value there.ensures.goes_on
