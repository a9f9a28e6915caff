use Rattle.std.proofs.Common.{◌∙◌, ap, sym, subst, inl, inr}
use Rattle.access_slots.specs.Locks.{target}
use Rattle.tc_core.specs.Core.{Core}
use Rattle.worker_pool.specs.Joining.Seen.{Seen}
use Rattle.worker_pool.specs.Restarts.{StaysKnown}
use Rattle.worker_pool.proofs.Carrying.{NoSend, up_where_no_send, to_redo_now, redo_logs_nothing}
use Rattle.worker_pool.proofs.Known.{known_behind}
use Rattle.worker_pool.proofs.Steps.{redo_asked}
use Rattle.worker_pool.proofs.Grown.{handed_redo}
use Rattle.worker_pool.proofs.pool_state.PoolState.to_redo.Goals as goal
use Rattle.worker_pool.proofs.pool_state.PoolState.to_redo.Goals.{in-Send, in-Finished}

pub invariant_of-self : goal.invariant_of-self
invariant_of-self g c = (
  rw c.redo_next.ensures.state (redo_asked g.J.RunSpec.start g.J.RunSpec.calls c.self.inside.state
      c.self.inside.progress.items c.record.result.now.dc c.redo_next.result c.self.invariant.0),
  (λ bad. (cc)),
  rw c.redo_next.ensures.state (handed_redo g.J.RunSpec.start c.self.inside.handed c.self.inside.copied
      c.self.inside.state c.record.result.now.dc c.redo_next.result c.self.invariant.2),
)

pub returns-clause-up : goal.returns-clause-up
returns-clause-up g c =
    let e = c.redo_next.ensures in
    elim c.match-redo_next.branch [
      | in-Send w ↦ rw w.result-is tt
      | in-Finished w ↦
          rw w.result-is
          (up_where_no_send c.self.inside.state c.redo_next.new.self c.args.request.now c.record.result.now.dc c.redo_next.result
          (ap (λ r. r.dc) (c.record.ensures ∙ ap target c.op.ensures)) e.reply e.state
          (elim w.in-Finished.is [
            | inl is ↦ subst NoSend (sym is) tt
            | inr more ↦ elim more [
              | inl is ↦ subst NoSend (sym is) tt
              | inr is ↦ subst NoSend (sym is) tt
            ]
          ]))
    ]

pub returns-clause-redo : goal.returns-clause-redo
returns-clause-redo g c =
    let e = c.redo_next.ensures in
    elim c.match-redo_next.branch [
      | in-Send w ↦
          rw w.result-is
          (to_redo_now c.self.inside.state c.redo_next.new.self c.args.request.now c.record.result.now.dc c.redo_next.result w.in-Send.wire
          (ap (λ r. r.dc) (c.record.ensures ∙ ap target c.op.ensures)) e.reply e.state w.in-Send.is)
      | in-Finished w ↦ rw w.result-is tt
    ]

pub returns-clause-events : goal.returns-clause-events
returns-clause-events g c =
    ap (λ (s : Core). s.events) c.redo_next.ensures.state
    ∙ (redo_logs_nothing c.self.inside.state c.record.result.now.dc c.redo_next.result ∙ ap (λ (v : Seen). v.state.events) c.self.view_is)

pub returns-clause-known : goal.returns-clause-known
returns-clause-known g c =
    subst (λ (v : Seen). StaysKnown v.state c.redo_next.new.self) c.self.view_is
    (subst (λ (s : Core). StaysKnown c.self.inside.state s) (sym c.redo_next.ensures.state)
    (known_behind c.self.inside.state c.record.result.now.dc c.redo_next.result))
