use Rattle.std.proofs.Common.{◌≡◌, ◌-◌, ◌≤◌, ◌∷◌, List, arith, refl, sym, ◌∙◌, ap, subst}
use Rattle.history.specs.Anew.{begun}
use Rattle.tc_log.specs.declared.event.Event.{Event}
use Rattle.tc_log.specs.declared.event.Event.TheVariants.{Ask, Answer}
use Rattle.transactions.proofs.StandingLemmas.{some_same}
use Rattle.tc_core.specs.Joining.Hearing.{MayHear}
use Rattle.tc_core.specs.Joining.Sends.{asking_under}
use Rattle.tc_core.specs.declared.transaction.Tx.{Tx}
use Rattle.tc_core.proofs.StartLemmas.{starts_event}
use Rattle.tc_core.proofs.AnsweringLemmas.{may-ask-at-once, may-answer-at-once, hears-at-once, seen-asked, kept-at-once, marked-at-once}
use Rattle.tc_core.proofs.book.Book.answered_at_once.Goals as goal

pub pass-requires : goal.pass-requires
pass-requires c =
    let m = c.requires.1 in
    (may-ask-at-once _ _ _ _ _ _ _ _ _ _ _ _ m.book.kept m.found m.asks m.number).few

pub hear_at_once-requires-clause-left : goal.hear_at_once-requires-clause-left
hear_at_once-requires-clause-left c = λ tx found.
    let m = c.requires.1 in
    subst (λ (x : Tx). 1 ≤ x.left) (some_same m.tx tx (sym m.found ∙ found))
    (may-ask-at-once _ _ _ _ _ _ _ _ _ _ _ _ m.book.kept m.found m.asks m.number).left

pub hear_at_once-requires-clause-hears : goal.hear_at_once-requires-clause-hears
hear_at_once-requires-clause-hears c = λ tx found.
    let m = c.requires.1 in
    let w = seen-asked _ _ _ _ _ _ _ _ _ _ _ _ m.book.kept m.found m.asks m.number in (
      w.s,
      subst (λ (x : Tx). MayHear c.args.code.now (asking_under c.args.wire.now.number c.args.wire.now.op x) w.s c.args.said.now)
          (some_same m.tx tx (sym m.found ∙ found))
          (hears-at-once _ _ _ _ _ _ _ _ _ _ _ _ m.book.kept m.found m.asks m.number c.args.code.now c.args.said.now m.loaded m.fit),
    )

pub push-requires : goal.push-requires
push-requires c =
    let m = c.requires.1 in
    (may-ask-at-once _ _ _ _ _ _ _ _ _ _ _ _ m.book.kept m.found m.asks m.number).room

pub push-requires-2 : goal.push-requires-2
push-requires-2 c =
    let m = c.requires.1 in
    let may = may-answer-at-once _ _ _ _ _ _ _ _ _ _ _ _ m.book.kept m.found m.asks m.number c.args.said.now m.fit in
    omega (arith, may.room, c.push.ensures.room)

pub overflow_sub-self : goal.overflow_sub-self
overflow_sub-self c =
    let m = c.requires.1 in
    let may = may-answer-at-once _ _ _ _ _ _ _ _ _ _ _ _ m.book.kept m.found m.asks m.number c.args.said.now m.fit in
    omega (arith, may.owed_left)

pub overflow_sub-self-2 : goal.overflow_sub-self-2
overflow_sub-self-2 c =
    let m = c.requires.1 in
    (may-ask-at-once _ _ _ _ _ _ _ _ _ _ _ _ m.book.kept m.found m.asks m.number).promised_left

pub returns-clause-kept : goal.returns-clause-kept
returns-clause-kept c = λ ps m.
    let b = c.args.self.now in
    let n = c.args.wire.now.number in
    let o = c.args.wire.now.op in
    let said = c.args.said.now in
    let heard = c.hear_at_once.ensures.updates m.tx m.found in
    let same = some_same c.at.result.now m.tx (sym c.at.ensures ∙ m.found) in
    let logged = c.push-2.ensures.events ∙ ap (λ (es : List Event). Answer c.at.result.now.serial n said ∷ es) c.push.ensures.events in
    let events = subst (λ (x : Tx). c.push-2.new.self.events ≡ Answer x.serial n said ∷ Ask x.serial n o ∷ b.log.events) same logged in
    let two : b.owed - 2 ≡ b.owed - 1 - 1 = omega arith in
    let begins : begun c.push-2.new.self.events ≡ begun b.log.events = ap begun events in
    record {
      kept = rw two (kept-at-once _ _ _ _ _ _ _ _ _ _ _ _ m.book.kept m.found m.asks m.number c.push-2.new.self c.pass.new.self c.hear_at_once.new.self
          c.args.code.now said m.loaded m.fit heard c.hear_at_once.ensures.len events (omega (arith, c.push.ensures.room, c.push-2.ensures.room))
          (c.pass.ensures.last ∙ sym m.number) c.pass.ensures.pending c.pass.ensures.room);
      doubts = (let doubts = m.book.doubts in omega (arith, doubts, c.hear_at_once.ensures.len));
      marked = marked-at-once _ _ _ _ _ _ _ _ _ _ _ _ m.book.kept m.found m.asks m.number _ _ _ c.args.code.now said m.book.marked m.loaded m.fit heard events;
      from = m.book.from ∙ sym begins;
      starts = starts_event _ _ (Answer m.tx.serial n said) (Ask m.tx.serial n o ∷ b.log.events) _ events
          (starts_event _ _ (Ask m.tx.serial n o) b.log.events (Ask m.tx.serial n o ∷ b.log.events) refl m.book.starts);
    }
