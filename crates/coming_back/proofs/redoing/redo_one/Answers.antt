use Rattle.std.proofs.Common.{◌≡◌, ◌<◌, refl, sym, ◌∙◌, ap, subst, inl, inr}
use Rattle.tc_core.specs.Core.{Core}
use Rattle.tc_core.specs.Redo.{IsRedone, after_redone}
use Rattle.transactions.specs.InFlight.{site_at}
use Rattle.coming_back.specs.Joining.Redoing.{RedoesAt, IsRedoneTo, left_to_redo}
use Rattle.coming_back.proofs.RedoLemmas.{NoSend, next_redoes, up_where_no_send, never_unknown, performed_redoes, redone_redoes, redone_nearer, sends_down}
use Rattle.coming_back.proofs.FullLemmas.{silent_full}
use Rattle.coming_back.proofs.DoneLemmas.{next_done, redone_done}
use Rattle.coming_back.proofs.redoing.redo_one.Goals as goal

pub returns-in-Finished-clause-redoes : goal.returns-in-Finished-clause-redoes
returns-in-Finished-clause-redoes c =
    let k = c.known.ensures in
    let e = c.redo_next.ensures in
    subst (λ (x : Core). RedoesAt c.args.dc c.args.state.now c.args.dcs.now x c.args.dcs.now) (sym e.state)
    (next_redoes c.args.dc c.args.state.now c.args.dcs.now c.redo_next.result e.reply k.legal k.good)

pub returns-in-Finished-clause-up : goal.returns-in-Finished-clause-up
returns-in-Finished-clause-up c = λ done.
    let e = c.redo_next.ensures in
    up_where_no_send c.args.state.now c.redo_next.new.self c.args.dc c.redo_next.result e.reply e.state
    (elim c.in-Finished.is [
      | inl is ↦ subst NoSend (sym is) tt
      | inr is ↦ subst NoSend (sym is) tt
    ])

pub returns-in-Finished-clause-done : goal.returns-in-Finished-clause-done
returns-in-Finished-clause-done c = λ so.
    let e = c.redo_next.ensures in
    next_done c.args.state.now c.redo_next.new.self c.args.dc c.args.dcs.now c.redo_next.result e.reply e.state
    (elim c.in-Finished.is [
      | inl is ↦ subst NoSend (sym is) tt
      | inr is ↦ subst NoSend (sym is) tt
    ]) c.known.ensures.legal so

pub unreachable-requires : goal.unreachable-requires
unreachable-requires c = never_unknown c.args.state.now c.args.dc c.redo_next.result c.requires c.redo_next.ensures.reply c.in-NoDc.is

pub returns-in-None-clause-redoes : goal.returns-in-None-clause-redoes
returns-in-None-clause-redoes c =
    let k = c.known.ensures in
    subst (λ (x : Core). RedoesAt c.args.dc c.args.state.now c.args.dcs.now x c.perform.new.dcs) (sym c.in-Send.ensures.state)
    (performed_redoes c.args.dc c.args.state.now c.in-Send.wire c.perform.result c.args.dcs.now c.perform.new.dcs
    k.legal k.good c.in-Send.ensures.reply c.perform.ensures)

pub returns-in-None-clause-down : goal.returns-in-None-clause-down
returns-in-None-clause-down c = λ none.
    sends_down c.args.state.now c.args.dc c.in-Send.wire c.in-Send.ensures.reply
    (sym (ap (λ (x : Core). (site_at x.sites c.args.dc).redo) c.in-Send.ensures.state) ∙ none)

pub returns-in-None-clause-full : goal.returns-in-None-clause-full
returns-in-None-clause-full c = λ is matched.
    silent_full c.args.state.now c.args.dc c.in-Send.wire c.args.dcs.now c.perform.new.dcs c.known.ensures.legal
    c.in-Send.ensures.reply c.in-None.ensures matched

pub returns-in-Ok-clause-redoes : goal.returns-in-Ok-clause-redoes
returns-in-Ok-clause-redoes c =
    let k = c.known.ensures in
    let same : c.redo_next.new.self ≡ c.args.state.now = c.in-Send.ensures.state in
    let it : IsRedone c.args.state.now c.args.dc c.in-Some.reply = subst
    (λ (x : Core). IsRedone x c.args.dc c.in-Some.reply) same (c.in-Ok.ensures.accepted.0 refl) in
    let after : c.redone.new.self ≡ after_redone c.args.state.now c.args.dc c.in-Some.reply.number = c.in-Ok.ensures.ok
    ∙ ap (λ (x : Core). after_redone x c.args.dc c.in-Some.reply.number) same in
    subst (λ (x : Core). RedoesAt c.args.dc c.args.state.now c.args.dcs.now x c.perform.new.dcs) (sym after)
    (redone_redoes c.args.dc c.args.state.now c.in-Send.wire c.in-Some.reply c.args.dcs.now c.perform.new.dcs k.legal
    k.good c.in-Send.ensures.reply c.in-Some.ensures it)

pub returns-in-Ok-clause-done : goal.returns-in-Ok-clause-done
returns-in-Ok-clause-done c = λ so.
    let k = c.known.ensures in
    let same : c.redo_next.new.self ≡ c.args.state.now = c.in-Send.ensures.state in
    let it : IsRedone c.args.state.now c.args.dc c.in-Some.reply = subst
    (λ (x : Core). IsRedone x c.args.dc c.in-Some.reply) same (c.in-Ok.ensures.accepted.0 refl) in
    let after : c.redone.new.self ≡ after_redone c.args.state.now c.args.dc c.in-Some.reply.number = c.in-Ok.ensures.ok
    ∙ ap (λ (x : Core). after_redone x c.args.dc c.in-Some.reply.number) same in
    subst (λ (x : Core). IsRedoneTo x c.perform.new.dcs c.args.dc) (sym after)
    (redone_done c.args.dc c.args.state.now c.in-Send.wire c.in-Some.reply c.args.dcs.now c.perform.new.dcs k.legal
    c.in-Send.ensures.reply c.in-Some.ensures it so)

pub returns-in-Ok-clause-nearer : goal.returns-in-Ok-clause-nearer
returns-in-Ok-clause-nearer c = λ done.
    let k = c.known.ensures in
    let same : c.redo_next.new.self ≡ c.args.state.now = c.in-Send.ensures.state in
    let it : IsRedone c.args.state.now c.args.dc c.in-Some.reply = subst
    (λ (x : Core). IsRedone x c.args.dc c.in-Some.reply) same (c.in-Ok.ensures.accepted.0 refl) in
    let after : c.redone.new.self ≡ after_redone c.args.state.now c.args.dc c.in-Some.reply.number = c.in-Ok.ensures.ok
    ∙ ap (λ (x : Core). after_redone x c.args.dc c.in-Some.reply.number) same in
    subst (λ (x : Core). left_to_redo x c.args.dc < left_to_redo c.args.state.now c.args.dc) (sym after)
    (redone_nearer c.args.dc c.args.state.now c.in-Some.reply k.legal it)

pub returns-in-Err-clause-redoes : goal.returns-in-Err-clause-redoes
returns-in-Err-clause-redoes c =
    let k = c.known.ensures in
    subst (λ (x : Core). RedoesAt c.args.dc c.args.state.now c.args.dcs.now x c.perform.new.dcs) (sym (c.in-Err.ensures.err ∙ c.in-Send.ensures.state))
    (performed_redoes c.args.dc c.args.state.now c.in-Send.wire c.perform.result c.args.dcs.now c.perform.new.dcs
    k.legal k.good c.in-Send.ensures.reply c.perform.ensures)

pub returns-in-Err-clause-down : goal.returns-in-Err-clause-down
returns-in-Err-clause-down c = λ none.
    sends_down c.args.state.now c.args.dc c.in-Send.wire c.in-Send.ensures.reply
    (sym (ap (λ (x : Core). (site_at x.sites c.args.dc).redo) (c.in-Err.ensures.err ∙ c.in-Send.ensures.state)) ∙ none)
