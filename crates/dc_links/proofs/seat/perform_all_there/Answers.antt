use Rattle.std.proofs.Common.{Option, Some, refl, sym, subst}
use Rattle.dc_links.specs.declared.served.Served.{Served}
use Rattle.dc_links.specs.Joining.Seated.{GoesOn}
use Rattle.dc_links.proofs.seat.perform_all_there.Goals as goal

pub returns-in-Some : goal.returns-in-Some
returns-in-Some g c =
    let s = c.in-Some.served in
    let now = c.perform_all.new.dc in
    subst (λ (b : Option Served). GoesOn b (Some (record { number = s.number; dc = now }))) (sym c.in-Some.is)
    (now, refl, c.perform_all.ensures)
