use Rattle.std.proofs.Common.{rules, ap, ◌∙◌, ◌++◌, ◌∷◌, []}
use Rattle.data_component.specs.Listed.{Listed}
use Rattle.data_component.proofs.Entering.{pushed_within, pushed_few, pushed_items}
use Rattle.data_component.proofs.entries.Entries.push.Goals as goal

pub invariant_of-self : goal.invariant_of-self
invariant_of-self c = (
  pushed_within c.self.inside.values.items c.share_any-said.new.values.items c.share_any-written.new.values.items
      c.self.inside.heads.items c.push_reserved.new.self.items _ _ _ c.self.invariant.0 c.self.invariant.1
      c.share_any-said.ensures.numbered c.share_any-written.ensures.numbered c.push_reserved.ensures.items,
  pushed_few c.self.inside.values.items c.share_any-said.new.values.items c.share_any-written.new.values.items
      c.self.inside.heads.items c.push_reserved.new.self.items _ _ _ c.self.invariant.1
      c.share_any-said.ensures.numbered c.share_any-written.ensures.numbered c.push_reserved.ensures.items,
  search rules,
  search rules,
)

pub returns-clause-items : goal.returns-clause-items
returns-clause-items c =
    pushed_items c.self.inside.values.items c.share_any-said.new.values.items c.share_any-written.new.values.items
    c.self.inside.heads.items c.push_reserved.new.self.items _ c.args.op.now c.args.said.now _ _ c.self.invariant.0
    c.share_any-said.ensures.numbered c.value.ensures c.kind-told.ensures.again
    c.share_any-written.ensures.numbered c.value-2.ensures c.kind.ensures.again
    (search rules) c.push_reserved.ensures.items
    ∙ ap (λ (s : Listed). s.items ++ (c.args.number, c.args.op.now, c.args.said.now) ∷ []) c.self.view_is
