use Rattle.std.proofs.Common.{arith, ◌+◌, ◌<◌, ◌++◌, [], ◌∷◌, sym, ap, subst, ◌∙◌}
use Rattle.request_numbers.specs.Given.{Given}
use Rattle.request_numbers.specs.Places.{open_of, AreKept}
use Rattle.request_numbers.proofs.Closing.{pushed_kept, open_pushed}
use Rattle.request_numbers.proofs.numbers.Numbers.next.Goals as goal

pub invariant_of-self : goal.invariant_of-self
invariant_of-self c =
    let room = subst (λ (g : Given). 0 < g.room) (sym c.self.view_is) c.requires in
    let kept = pushed_kept c.self.inside.last c.self.inside.places.items c.push_reserved.new.self.items c.self.inside.first c.self.inside.pending _ c.self.invariant.1
    c.push_reserved.ensures.items room in (
      omega (arith, c.if-self-ge-MOST.false),
      subst (AreKept (c.self.inside.last + 1) c.push_reserved.new.self.items c.self.inside.first (c.self.inside.pending + 1)) (sym c.push_reserved.ensures.capacity) kept,
    )

pub returns-clause-pending : goal.returns-clause-pending
returns-clause-pending c =
    ap open_of c.push_reserved.ensures.items
    ∙ open_pushed c.self.inside.places.items (c.self.inside.last + 1)
    ∙ ap (λ (g : Given). g.pending ++ (c.self.inside.last + 1) ∷ []) c.self.view_is
