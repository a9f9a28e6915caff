use Rattle.std.proofs.Common.{rules, subst, sym, ◌≤◌, length, ap, ◌∙◌, take}
use Rattle.data_component.specs.Listed.{Listed}
use Rattle.data_component.proofs.Entering.{cut_within, cut_few, cut_items}
use Rattle.data_component.proofs.entries.Entries.truncate.Goals as goal

pub invariant_of-self : goal.invariant_of-self
invariant_of-self c = (
  cut_within c.self.inside.values.items c.truncate-2.new.self.items c.self.inside.heads.items c.truncate.new.self.items
      c.args.count c.self.invariant.0 c.truncate-2.ensures.items c.truncate.ensures.items,
  cut_few c.self.inside.values.items c.truncate-2.new.self.items c.self.inside.heads.items c.truncate.new.self.items c.args.count
      (subst (λ (s : Listed). c.args.count ≤ length s.items) (sym c.self.view_is) c.requires) c.truncate-2.ensures.items c.truncate.ensures.items,
  search rules,
  search rules,
)

pub returns-clause-items : goal.returns-clause-items
returns-clause-items c =
    cut_items c.self.inside.values.items c.truncate-2.new.self.items c.self.inside.heads.items c.truncate.new.self.items
    c.args.count c.self.invariant.0 c.truncate-2.ensures.items c.truncate.ensures.items
    ∙ ap (λ (s : Listed). take c.args.count s.items) c.self.view_is
