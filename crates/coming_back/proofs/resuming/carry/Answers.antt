use Rattle.std.proofs.Common.{◌≡◌, ◌<◌, ℕ, true, false, refl, sym, ◌∙◌, ap, subst}
use Rattle.transactions.specs.Legal.{Legal}
use Rattle.transactions.proofs.StandingLemmas.{some_same}
use Rattle.tc_core.specs.Core.{Core, Asking}
use Rattle.tc_core.specs.Replies.{after_answer, IsAnswer}
use Rattle.tc_core.specs.GivingUp.{IsOpenHere, with_given_up}
use Rattle.coming_back.specs.Coming.{IsLeft}
use Rattle.coming_back.specs.Joining.Moving.{Moves, IsOpen, left_of}
use Rattle.coming_back.proofs.NextLemmas.{answered_nearer}
use Rattle.coming_back.proofs.MovingLemmas.{answer_moves, answer_open, given_up_moves, give_up_leaves}
use Rattle.coming_back.proofs.resuming.carry.Goals as goal

pub returns-in_default-clause-moves : goal.returns-in_default-clause-moves
returns-in_default-clause-moves c =
    let k = c.known.ensures in
    let r = c.args.request in
    subst (λ (x : Core). Moves r.txn c.args.state.now c.args.dcs.now x c.send.new.dcs) (sym (c.give_up.ensures.open_here c.requires))
    (given_up_moves c.args.state.now r c.send.result c.args.dcs.now c.send.new.dcs k.legal k.good c.requires c.send.ensures
    (λ z some a. c.in_default.not-Some z some))

pub returns-in_default-clause-left : goal.returns-in_default-clause-left
returns-in_default-clause-left c =
    let r = c.args.request in
    subst (λ (n : ℕ). IsLeft c.give_up.new.self r.txn n) (sym c.give_up.ensures.number)
    (subst (λ (x : Core). IsLeft x r.txn r.number) (sym (c.give_up.ensures.open_here c.requires)) (give_up_leaves c.args.state.now r c.requires))

pub returns-in-Ok-clause-moves : goal.returns-in-Ok-clause-moves
returns-in-Ok-clause-moves c =
    let k = c.known.ensures in
    let r = c.args.request in
    let e : c.answer-answered.new.self ≡ after_answer c.args.state.now r c.in-Some.reply.said = c.in-Ok.ensures.ok in
    let a : IsAnswer c.args.state.now r c.in-Some.reply = c.in-Ok.ensures.accepted.0 refl in
    subst (λ (x : Core). Moves r.txn c.args.state.now c.args.dcs.now x c.send.new.dcs) (sym e)
    (answer_moves c.args.state.now r c.in-Some.reply c.args.dcs.now c.send.new.dcs k.legal k.good a
    (subst (λ (x : Core). Legal x.procs x.events) e c.known-2.ensures.legal) c.in-Some.ensures)

pub returns-in-Ok-clause-nearer : goal.returns-in-Ok-clause-nearer
returns-in-Ok-clause-nearer c =
    let r = c.args.request in
    let e : c.answer-answered.new.self ≡ after_answer c.args.state.now r c.in-Some.reply.said = c.in-Ok.ensures.ok in
    subst (λ (x : Core). left_of x r.txn < left_of c.args.state.now r.txn) (sym e) (answered_nearer c.args.state.now r c.in-Some.reply.said c.requires)

pub returns-in-Ok-clause-still : goal.returns-in-Ok-clause-still
returns-in-Ok-clause-still c =
    let r = c.args.request in
    let e : c.answer-answered.new.self ≡ after_answer c.args.state.now r c.in-Some.reply.said = c.in-Ok.ensures.ok in
    subst (λ (x : Core). IsOpen x r.txn) (sym e) (answer_open c.args.state.now r c.in-Some.reply.said c.requires)

pub returns-in-Err-clause-moves : goal.returns-in-Err-clause-moves
returns-in-Err-clause-moves c =
    let k = c.known.ensures in
    let r = c.args.request in
    let q = c.in-Err.field-0.request in
    let own : q ≡ r = c.in-Err.ensures.back in
    let same : c.answer-answered.new.self ≡ c.args.state.now = c.in-Err.ensures.err in
    let here : IsOpenHere c.answer-answered.new.self q = subst (λ (x : Core). IsOpenHere x q) (sym same)
    (subst (λ (x : Asking). IsOpenHere c.args.state.now x) (sym own) c.requires) in
    let e : c.give_up-in-Err.new.self ≡ with_given_up c.args.state.now r.number =
    c.give_up-in-Err.ensures.open_here here
    ∙ (ap (λ (x : Core). with_given_up x q.number) same ∙ ap (λ (x : Asking). with_given_up c.args.state.now x.number) own) in
    subst (λ (x : Core). Moves r.txn c.args.state.now c.args.dcs.now x c.send.new.dcs) (sym e)
    (given_up_moves c.args.state.now r c.send.result c.args.dcs.now c.send.new.dcs k.legal k.good c.requires c.send.ensures
    (λ z some a.
    let mine : z ≡ c.in-Some.reply = some_same z c.in-Some.reply (sym some ∙ c.in-Some.is) in
    let ok : false ≡ true = c.in-Err.ensures.accepted.1 (subst (IsAnswer c.args.state.now r) mine a) in
    cc))

pub returns-in-Err-clause-left : goal.returns-in-Err-clause-left
returns-in-Err-clause-left c =
    let r = c.args.request in
    let q = c.in-Err.field-0.request in
    let own : q ≡ r = c.in-Err.ensures.back in
    let same : c.answer-answered.new.self ≡ c.args.state.now = c.in-Err.ensures.err in
    let here : IsOpenHere c.answer-answered.new.self q = subst (λ (x : Core). IsOpenHere x q) (sym same)
    (subst (λ (x : Asking). IsOpenHere c.args.state.now x) (sym own) c.requires) in
    let e : c.give_up-in-Err.new.self ≡ with_given_up c.args.state.now r.number =
    c.give_up-in-Err.ensures.open_here here
    ∙ (ap (λ (x : Core). with_given_up x q.number) same ∙ ap (λ (x : Asking). with_given_up c.args.state.now x.number) own) in
    subst (λ (n : ℕ). IsLeft c.give_up-in-Err.new.self r.txn n) (sym (c.give_up-in-Err.ensures.number ∙ ap (λ (x : Asking). x.number) own))
    (subst (λ (x : Core). IsLeft x r.txn r.number) (sym e) (give_up_leaves c.args.state.now r c.requires))
