use Rattle.std.proofs.Common.{rules, ℕ, List, ◌*◌, subst, reverse}
use Rattle.tc_log.proofs.Laying.{reversed, counted}
use Rattle.tc_log.specs.Reading.{IsPrinted}
use Rattle.std.proofs.lemmas.List.{take_all}
use Rattle.tc_log.proofs.Again.{printed_further, rest_further, read_further, record_is}
use Rattle.tc_log.proofs.Only.{AreSeen, seen_further, only_these}
use Rattle.tc_log.proofs.read.events_in.Goals as goal

pub records-preserved : goal.records-preserved
records-preserved c = record {
  rest = rest_further c.args.bytes.now c.records.rest.now c.split_at.result.1.now c.records.place c.records.invariant.rest (search rules);
  events = printed_further (reverse c.records.log.events) (reverse c.push.new.self.events) c.in-Some.event c.args.bytes.now
      c.records.rest.now c.split_at.result.0.now c.records.place c.records.invariant.events (reversed c.records.log.events c.push.new.self.events c.in-Some.event c.push.ensures.events)
      c.records.invariant.rest (search rules) (search rules) (search rules);
  before = read_further c.in-Some.event c.args.bytes.now c.records.rest.now c.split_at.result.0.now c.records.place
      c.records.invariant.before c.records.invariant.rest (search rules) (search rules) (search rules) (search rules);
  count = counted c.records.log.events c.push.new.self.events c.in-Some.event c.records.place c.push.ensures.events c.records.invariant.count;
  room = search rules;
  seen = seen_further (reverse c.records.log.events) (reverse c.push.new.self.events) c.in-Some.event c.args.bytes.now c.records.rest.now
      c.split_at.result.0.now c.records.place c.records.invariant.seen c.records.invariant.count (reversed c.records.log.events c.push.new.self.events c.in-Some.event c.push.ensures.events)
      c.records.invariant.rest
      (search rules) (search rules) (search rules) (search rules);
}

pub returns-in-None-clause-err : goal.returns-in-None-clause-err
returns-in-None-clause-err c = let none : IsPrinted c.split_at.result.0.now → ⊥ = search rules in (
  c.requires,
  record {
    inside = search rules;
    before = c.records.invariant.before;
    unread = λ is. none (record_is IsPrinted c.args.bytes.now c.records.rest.now c.split_at.result.0.now c.records.place c.records.invariant.rest (search rules) is);
  },
)

pub returns-clause-only : goal.returns-clause-only
returns-clause-only c =
    only_these (reverse c.records.log.events) c.args.bytes.now
    (subst (λ (b : List ℕ). AreSeen (reverse c.records.log.events) b) (take_all (96 * c.records.place) c.args.bytes.now (search rules)) c.records.invariant.seen)
