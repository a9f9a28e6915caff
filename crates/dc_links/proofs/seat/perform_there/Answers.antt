use Rattle.std.proofs.Common.{Option, Some, refl, sym, subst}
use Rattle.dc_links.specs.declared.served.Served.{Served}
use Rattle.dc_links.specs.Joining.Seated.{GoesOn}
use Rattle.dc_links.proofs.Serving.{not_yet, served_on}
use Rattle.dc_links.proofs.seat.perform_there.Goals as goal

pub returns-in-Some-clause-goes_on : goal.returns-in-Some-clause-goes_on
returns-in-Some-clause-goes_on c =
    let s = c.in-Some.served in
    let now = c.perform_own.new.dc in
    let e = c.perform_own.ensures in
    subst (λ (b : Option Served). GoesOn b (Some (record { number = s.number; dc = now }))) (sym c.in-Some.is)
    (now, refl, served_on s.number s.dc s.dc now c.args.wire.now (not_yet s.number s.dc) e.store (λ other. (e.other other).0))
