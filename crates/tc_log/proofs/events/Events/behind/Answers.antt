use Rattle.std.proofs.Common.{List, ◌≤◌, ◌∙◌, ap, drop, length, subst, sym}
use Rattle.tc_log.specs.declared.event.Event.{Event}
use Rattle.tc_log.proofs.Parts.{part_within, part_behind, fits_inside}
use Rattle.tc_log.proofs.events.Events.behind.Goals as goal

pub overflow_add-result : goal.overflow_add-result
overflow_add-result c =
    fits_inside c.self.inside.first c.self.inside.count c.args.place
    (part_within c.self.inside.log.now.events c.self.inside.first c.self.inside.count c.args.place c.self.invariant.0
    (subst (λ (xs : List Event). c.args.place ≤ length xs) (sym c.self.view_is) c.requires)) c.self.invariant.1

pub returns : goal.returns
returns c =
    part_behind c.self.inside.log.now.events c.self.inside.first c.self.inside.count c.args.place
    ∙ ap (λ (xs : List Event). drop c.args.place xs) c.self.view_is
