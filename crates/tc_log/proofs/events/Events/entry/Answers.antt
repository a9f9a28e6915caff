use Rattle.std.proofs.Common.{List, ◌<◌, ◌∙◌, ap, length, subst, sym}
use Rattle.std.specs.List.{slice_get}
use Rattle.tc_log.specs.declared.event.Event.{Event}
use Rattle.tc_log.specs.Entered.{seen}
use Rattle.tc_log.proofs.Laying.{first_there}
use Rattle.tc_log.proofs.Parts.{part_inside, part_at, fits_below}
use Rattle.tc_log.proofs.events.Events.entry.Goals as goal

pub overflow_add-self-inside : goal.overflow_add-self-inside
overflow_add-self-inside c =
    fits_below c.self.inside.first c.self.inside.count c.args.place
    (part_inside c.self.inside.log.now.events c.self.inside.first c.self.inside.count c.args.place c.self.invariant.0
    (subst (λ (xs : List Event). c.args.place < length xs) (sym c.self.view_is) c.requires)) c.self.invariant.1

pub returns-clause-there : goal.returns-clause-there
returns-clause-there c =
    ap (λ (xs : List Event). slice_get xs c.args.place) (sym c.self.view_is)
    ∙ part_at c.self.inside.log.now.events c.self.inside.first c.self.inside.count c.args.place (seen c.entry.result)
    (part_inside c.self.inside.log.now.events c.self.inside.first c.self.inside.count c.args.place c.self.invariant.0
    (subst (λ (xs : List Event). c.args.place < length xs) (sym c.self.view_is) c.requires)) c.entry.ensures.there

pub returns-clause-first : goal.returns-clause-first
returns-clause-first c = first_there c.args.self.now c.args.place (seen c.entry.result) (returns-clause-there c)
