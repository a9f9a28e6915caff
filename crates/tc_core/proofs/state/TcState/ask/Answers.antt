use Rattle.std.proofs.Common.{◌≡◌, ◌+◌, ◌<◌, ◌≤◌, arith, refl, sym, ◌∙◌, ap, subst}
use Rattle.tc_core.specs.Core.{Core}
use Rattle.tc_core.specs.Kept.{core_of}
use Rattle.tc_core.specs.declared.transaction.Tx.{Tx}
use Rattle.tc_core.proofs.ReplyLemmas.{next-unknown, next-known}
use Rattle.transactions.proofs.StandingLemmas.{some_same}
use Rattle.history.specs.Flight.{given, open_numbers}
use Rattle.history.specs.Anew.{begun}
use Rattle.tc_core.proofs.StartLemmas.{starts_event}
use Rattle.tc_core.proofs.MarkedLemmas.{stay_push, marked-moved}
use Rattle.tc_core.proofs.KeptLemmas.{places-absent, seen, may-send, kept-ask, seen-at}
use Rattle.tc_core.proofs.KeyLemmas.{serial-at}
use Rattle.tc_core.proofs.state.TcState.ask.Goals as goal

pub returns-in_default-clause-reply : goal.returns-in_default-clause-reply
returns-in_default-clause-reply c =
    let core : Core = core_of c.self.inside.procs c.self.inside.book in
    let none = next-unknown core c.args.txn.serial (places-absent _ _ _ c.self.invariant.0.kept.places _ c.in_default.ensures.absent) in
    rw (← c.self.view_is, none) refl

pub next_number-number-requires-clause-room : goal.next_number-number-requires-clause-room
next_number-number-requires-clause-room c =
    let tx = c.at.result.now in
    (may-send _ _ _ _ _ _ _ _ _ tx _ c.self.invariant.0.kept
    (seen-at _ _ _ _ tx c.self.invariant.0 c.in-Some.ensures.found c.at.ensures) c.in-Asks.ensures).place

pub next_number-number-requires-clause-few : goal.next_number-number-requires-clause-few
next_number-number-requires-clause-few c =
    let tx = c.at.result.now in
    (may-send _ _ _ _ _ _ _ _ _ tx _ c.self.invariant.0.kept (seen-at _ _ _ _ tx c.self.invariant.0 c.in-Some.ensures.found c.at.ensures) c.in-Asks.ensures).few

pub push-requires : goal.push-requires
push-requires c =
    let tx = c.at.result.now in
    (may-send _ _ _ _ _ _ _ _ _ tx _ c.self.invariant.0.kept
    (seen-at _ _ _ _ tx c.self.invariant.0 c.in-Some.ensures.found c.at.ensures) c.in-Asks.ensures).room

pub send-requires-clause-left : goal.send-requires-clause-left
send-requires-clause-left c = λ ty found.
    let tx = c.at.result.now in
    let same : c.at.result.now ≡ ty = some_same c.at.result.now ty (sym c.at.ensures ∙ found) in
    subst (λ (x : Tx). 1 ≤ x.left) same
    (may-send _ _ _ _ _ _ _ _ _ tx _ c.self.invariant.0.kept
    (seen-at _ _ _ _ tx c.self.invariant.0 c.in-Some.ensures.found c.at.ensures) c.in-Asks.ensures).left

pub overflow_sub-self : goal.overflow_sub-self
overflow_sub-self c =
    let tx = c.at.result.now in
    (may-send _ _ _ _ _ _ _ _ _ tx _ c.self.invariant.0.kept
    (seen-at _ _ _ _ tx c.self.invariant.0 c.in-Some.ensures.found c.at.ensures) c.in-Asks.ensures).owed_left

pub overflow_sub-self-in-Asks : goal.overflow_sub-self-in-Asks
overflow_sub-self-in-Asks c =
    let tx = c.at.result.now in
    (may-send _ _ _ _ _ _ _ _ _ tx _ c.self.invariant.0.kept
    (seen-at _ _ _ _ tx c.self.invariant.0 c.in-Some.ensures.found c.at.ensures) c.in-Asks.ensures).promised_left

pub invariant_of-self : goal.invariant_of-self
invariant_of-self c =
    let tx = c.at.result.now in
    let serial = serial-at _ _ _ tx c.in-Some.ensures.found c.at.ensures in
    let h = c.self.inside.book.log.events in
    let more : given c.push.new.self.events ≡ given h + 1 = ap given c.push.ensures.events in
    let late : given h < c.next_number-number.result = omega (arith, c.next_number-number.ensures.number, c.self.invariant.0.kept.last_is) in (
      record {
        kept =
            kept-ask _ _ _ _ _ _ _ _ _ _ _ _ c.next_number-number.result tx _ c.in-Asks.op.now c.self.invariant.0.kept c.at.ensures
            (seen _ _ _ _ _ _ _ _ _ _ tx c.self.invariant.0.kept c.at.ensures refl) c.in-Asks.ensures
            c.next_number-number.ensures.number (rw
            (← serial) at c.push.ensures.events) c.push.ensures.room c.next_number-number.ensures.last c.next_number-number.ensures.pending c.next_number-number.ensures.room
            (c.send.ensures.updates tx c.at.ensures) c.send.ensures.len refl;
        doubts = omega (arith, c.self.invariant.0.doubts, c.send.ensures.len);
        marked = marked-moved _ h _ _ _ _ _ c.self.invariant.0.marked (omega (arith, more))
            (stay_push h c.push.new.self.events c.next_number-number.result (ap open_numbers c.push.ensures.events))
            (c.send.ensures.updates tx c.at.ensures) (sym (c.self.invariant.0.marked.early _ late));
        from = (let same : begun c.push.new.self.events ≡ begun c.self.inside.book.log.events =
            ap begun c.push.ensures.events in omega (arith, same, c.self.invariant.0.from));
        starts = starts_event _ _ _ _ _ c.push.ensures.events c.self.invariant.0.starts;
      },
      c.self.invariant.1,
    )

pub returns-in-Waits-clause-reply : goal.returns-in-Waits-clause-reply
returns-in-Waits-clause-reply c =
    let tx = c.at.result.now in
    let core : Core = core_of c.self.inside.procs c.self.inside.book in
    let some = next-known core c.args.txn.serial tx _ (seen-at _ _ _ _ tx c.self.invariant.0 c.in-Some.ensures.found c.at.ensures) c.in-Waits.ensures in
    rw (← c.self.view_is, some) refl

pub returns-in-Undoes-clause-reply : goal.returns-in-Undoes-clause-reply
returns-in-Undoes-clause-reply c =
    let tx = c.at.result.now in
    let core : Core = core_of c.self.inside.procs c.self.inside.book in
    let some = next-known core c.args.txn.serial tx _ (seen-at _ _ _ _ tx c.self.invariant.0 c.in-Some.ensures.found c.at.ensures) c.in-Undoes.ensures in
    rw (← c.self.view_is, some) refl

pub returns-in-Stuck-clause-reply : goal.returns-in-Stuck-clause-reply
returns-in-Stuck-clause-reply c =
    let tx = c.at.result.now in
    let core : Core = core_of c.self.inside.procs c.self.inside.book in
    let some = next-known core c.args.txn.serial tx _ (seen-at _ _ _ _ tx c.self.invariant.0 c.in-Some.ensures.found c.at.ensures) c.in-Stuck.ensures in
    rw (← c.self.view_is, some) refl

pub returns-in-Over-clause-reply : goal.returns-in-Over-clause-reply
returns-in-Over-clause-reply c =
    let tx = c.at.result.now in
    let core : Core = core_of c.self.inside.procs c.self.inside.book in
    let some = next-known core c.args.txn.serial tx _ (seen-at _ _ _ _ tx c.self.invariant.0 c.in-Some.ensures.found c.at.ensures) c.in-Over.ensures in
    rw (← c.self.view_is, some) refl

pub returns-in-Asks-clause-reply : goal.returns-in-Asks-clause-reply
returns-in-Asks-clause-reply c =
    let tx = c.at.result.now in
    let core : Core = core_of c.self.inside.procs c.self.inside.book in
    let some = next-known core c.args.txn.serial tx _ (seen-at _ _ _ _ tx c.self.invariant.0 c.in-Some.ensures.found c.at.ensures) c.in-Asks.ensures in
    rw (← c.self.view_is, some, c.next_number-number.ensures.number, c.self.invariant.0.kept.last_is) refl
