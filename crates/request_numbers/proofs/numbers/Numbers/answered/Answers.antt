use Rattle.std.proofs.Common.{◌≡◌, true, sym, subst, ◌∙◌}
use Rattle.request_numbers.specs.Given.{Given, holds}
use Rattle.request_numbers.proofs.Closing.{fewer_open, answered_kept}
use Rattle.request_numbers.proofs.numbers.Numbers.answered.Goals as goal

pub settled-self-inside-requires-clause-pending : goal.settled-self-inside-requires-clause-pending
settled-self-inside-requires-clause-pending c =
    let is = subst (λ (g : Given). holds c.args.number g.pending ≡ true) (sym c.self.view_is) c.requires in
    fewer_open c.args.number c.self.inside.last c.self.inside.places.items c.close.new.places.items c.self.inside.pending
    c.self.invariant.1.rising c.self.invariant.1.all is c.close.ensures.open

pub invariant_of-self : goal.invariant_of-self
invariant_of-self c =
    let is = subst (λ (g : Given). holds c.args.number g.pending ≡ true) (sym c.self.view_is) c.requires in
    let settled = c.settled-self-inside.ensures in (
      c.self.invariant.0,
      answered_kept c.args.number c.self.inside.last c.self.inside.places.items c.close.new.places.items c.settled-self-inside.new.places.items c.self.inside.first
          c.settled-self-inside.result c.self.inside.pending _ _ c.self.invariant.1 is c.close.ensures.open settled.open (settled.rising c.self.inside.last)
          c.close.ensures.numbers settled.first settled.half (settled.capacity ∙ c.close.ensures.capacity),
    )
