use Rattle.std.proofs.Common.{rules, ap, ◌∙◌, ◌∷◌}
use Rattle.tc_log.specs.History.{History}
use Rattle.tc_log.proofs.Laying.{pushed_within, pushed_words, pushed_calls, pushed_events}
use Rattle.tc_log.proofs.log.Log.push.Goals as goal

pub invariant_of-self : goal.invariant_of-self
invariant_of-self c = (
  pushed_within c.self.inside.words.items c.lay-head.new.words.items c.self.inside.calls.items c.lay-head.new.calls.items c.self.inside.heads.items
      c.push_reserved.new.self.items c.lay-head.result c.args.event c.self.invariant.0 c.lay-head.ensures.laid c.push_reserved.ensures.items,
  pushed_words c.self.inside.words.items c.lay-head.new.words.items c.self.inside.calls.items c.lay-head.new.calls.items c.self.inside.heads.items
      c.push_reserved.new.self.items c.lay-head.result c.args.event c.self.invariant.1 c.lay-head.ensures.laid c.push_reserved.ensures.items,
  pushed_calls c.self.inside.words.items c.lay-head.new.words.items c.self.inside.calls.items c.lay-head.new.calls.items c.self.inside.heads.items
      c.push_reserved.new.self.items c.lay-head.result c.args.event c.self.invariant.2 c.lay-head.ensures.laid c.push_reserved.ensures.items,
  search rules,
  search rules,
  search rules,
  search rules,
  search rules,
)

pub returns-clause-events : goal.returns-clause-events
returns-clause-events c =
    pushed_events c.self.inside.words.items c.lay-head.new.words.items c.self.inside.calls.items c.lay-head.new.calls.items c.self.inside.heads.items
    c.push_reserved.new.self.items c.lay-head.result c.args.event c.self.invariant.0 c.lay-head.ensures.laid c.push_reserved.ensures.items
    ∙ ap (λ (s : History). c.args.event ∷ s.events) c.self.view_is
