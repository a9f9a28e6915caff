use Rattle.std.proofs.Common.{ap, reverse}
use Rattle.tc_log.specs.History.{History}
use Rattle.tc_log.proofs.Laying.{inside_heads, entry_within, entry_seen, first_there}
use Rattle.tc_log.proofs.log.Log.entry.Goals as goal

pub entry-requires : goal.entry-requires
entry-requires c =
    entry_within c.self.inside.words.items c.as_slice.result.now c.self.inside.calls.items c.as_slice-2.result.now c.self.inside.heads.items c.args.place
    c.index-head.result.now c.self.invariant.0 c.as_slice.ensures.value c.as_slice-2.ensures.value
    (inside_heads c.self.inside.words.items c.self.inside.calls.items c.self.inside.heads.items c.args.self.now.events c.args.place
    (ap (λ (s : History). s.events) c.self.view_is) c.requires)
    c.index-head.ensures

pub returns-clause-there : goal.returns-clause-there
returns-clause-there c =
    entry_seen c.self.inside.words.items c.as_slice.result.now c.self.inside.calls.items c.as_slice-2.result.now c.self.inside.heads.items
    c.args.self.now.events c.args.place c.index-head.result.now _ (ap (λ (s : History). s.events) c.self.view_is) c.as_slice.ensures.value c.as_slice-2.ensures.value
    (inside_heads c.self.inside.words.items c.self.inside.calls.items c.self.inside.heads.items c.args.self.now.events c.args.place
    (ap (λ (s : History). s.events) c.self.view_is) c.requires)
    c.index-head.ensures c.entry.ensures

pub returns-clause-first : goal.returns-clause-first
returns-clause-first c = first_there (reverse c.args.self.now.events) c.args.place _ (returns-clause-there c)
