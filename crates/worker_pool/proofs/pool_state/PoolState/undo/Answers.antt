use Rattle.std.proofs.Common.{◌≡◌, ◌∙◌, ap, sym, subst, inl, inr}
use Rattle.tc_core.specs.Core.{Core}
use Rattle.tc_core.specs.GivingUp.{IsOpenHere}
use Rattle.tc_core.specs.Replies.{ask_reply, after_undo}
use Rattle.tc_core.specs.declared.state.Asked.TheVariants.{Undoing}
use Rattle.worker_pool.specs.Joining.Seen.{Seen}
use Rattle.worker_pool.proofs.Steps.{undone}
use Rattle.worker_pool.proofs.Doubtful.{undo_sends, IsRequest}
use Rattle.worker_pool.proofs.Grown.{handed_undone}
use Rattle.worker_pool.specs.Restarts.{StaysKnown}
use Rattle.worker_pool.proofs.Carrying.{undo_opens}
use Rattle.worker_pool.proofs.Known.{known_then, undone_sites}
use Rattle.worker_pool.proofs.pool_state.PoolState.undo.Goals as goal

pub invariant_of-self : goal.invariant_of-self
invariant_of-self g c = (
  rw c.undo_next.ensures.state
      (undone g.J.RunSpec.start g.J.RunSpec.calls c.self.inside.state c.self.inside.progress.items c.undo_next.result
      c.self.invariant.0),
  (λ bad. (cc)),
  rw c.undo_next.ensures.state
      (handed_undone g.J.RunSpec.start c.self.inside.handed c.self.inside.copied c.self.inside.state c.undo_next.result
      c.self.invariant.2),
)

pub unreachable-requires : goal.unreachable-requires
unreachable-requires g c =
    let undoing : ask_reply c.self.inside.state c.args.txn.serial ≡ Undoing = ap
    (λ (v : Seen). ask_reply v.state c.args.txn.serial) c.self.view_is ∙ c.requires.undoing in
    let sends : IsRequest c.undo_next.result = rw c.undo_next.ensures.reply (undo_sends c.self.inside.state c.args.txn.serial undoing) in
    elim c.in-Undoing.is [
      | inl is ↦ subst IsRequest is sends
      | inr more ↦ elim more [
        | inl is ↦ subst IsRequest is sends
        | inr rest ↦ elim rest [
          | inl is ↦ subst IsRequest is sends
          | inr is ↦ subst IsRequest is sends
        ]
      ]
    ]

pub unreachable-requires-in-Stuck : goal.unreachable-requires-in-Stuck
unreachable-requires-in-Stuck g c =
    let undoing : ask_reply c.self.inside.state c.args.txn.serial ≡ Undoing = ap
    (λ (v : Seen). ask_reply v.state c.args.txn.serial) c.self.view_is ∙ c.requires.undoing in
    let sends : IsRequest c.undo_next.result = rw c.undo_next.ensures.reply (undo_sends c.self.inside.state c.args.txn.serial undoing) in
    elim c.in-Stuck.is [
      | inl is ↦ subst IsRequest is.1 sends
      | inr is ↦ subst IsRequest is.1 sends
    ]

pub send-requires-clause-is_open : goal.send-requires-clause-is_open
send-requires-clause-is_open g c =
    let e = c.undo_next.ensures in
    let state = c.self.inside.state in
    subst (λ (s : Core). IsOpenHere s c.in-Request.request) (sym (e.state ∙ ap (after_undo state) c.in-Request.is))
    (undo_opens state c.args.txn.serial c.in-Request.request (sym e.reply ∙ c.in-Request.is))

pub returns-clause-known : goal.returns-clause-known
returns-clause-known g c =
    let state = c.self.inside.state in
    let mid = c.undo_next.new.self in
    subst (λ (v : Seen). StaysKnown v.state c.send.new.self.state) c.self.view_is
    (known_then state mid c.send.new.self.state (ap (λ (s : Core). s.sites) c.undo_next.ensures.state
    ∙ undone_sites state c.undo_next.result) c.send.ensures.known)
