use Rattle.std.proofs.Common.{arith, ◌≡◌, ◌<◌, ◌≤◌, List, get_or, length, reverse, subst, sym}
use Rattle.std.proofs.lemmas.List.{length-reverse, take_all}
use Rattle.std.proofs.lemmas.List.Elements.{All-more}
use Rattle.std.proofs.lemmas.Option.{get_or_from_slice_get}
use Rattle.tc_log.specs.Entered.{seen}
use Rattle.tc_log.specs.declared.event.Event.{Event}
use Rattle.partitioned_run.specs.Belonging.{AreEventsOf, IsEventOf}
use Rattle.partitioned_run.proofs.belonging.other_of_log.Goals as goal

pub events-preserved : goal.events-preserved
events-preserved c =
    let place = c.events.place in
    let events = reverse c.args.log.now.events in
    let IsOwn = IsEventOf c.args.partitions.now c.args.procs.now.codes c.args.number in
    let event = seen c.entry-event.result in
    let own : IsOwn event = rw c.in_default.is at c.other_of_event.ensures.own in
    let lt : place < length events = omega (arith, c.events-test.true, c.len-place-end.ensures, length-reverse c.args.log.now.events) in
    let at : get_or events place event ≡ event = get_or_from_slice_get events place event event c.entry-event.ensures.there in
    All-more IsOwn events place event lt c.events.invariant (subst IsOwn (sym at) own)

pub returns-clause-own : goal.returns-clause-own
returns-clause-own c =
    let place = c.events.place in
    let events = reverse c.args.log.now.events in
    let all : length events ≤ place = omega (arith, c.events-test.false, c.len-place-end.ensures, length-reverse c.args.log.now.events) in
    subst (λ (xs : List Event). AreEventsOf c.args.partitions.now c.args.procs.now.codes c.args.number xs) (take_all place events all) c.events.invariant
